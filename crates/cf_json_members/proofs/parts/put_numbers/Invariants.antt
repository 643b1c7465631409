use Rattle.std.proofs.Common.{◌≡◌, ◌+◌, ◌-◌, ◌*◌, ◌≤◌, ◌++◌, nat_lt, false, vec_len, vec_capacity}
use Rattle.serde_json.specs.Written.{items_text}
use Rattle.cf_json_members.specs.Objects.{numbers_from}
use Rattle.cf_json_members.proofs.parts.put_numbers.Given as goal

abbrev pub invariant-loop-number : goal.invariant-loop-number
invariant-loop-number l = record {
  text : l.out.items ++ items_text (nat_lt l.first l.number) (numbers_from l.number (l.end - l.number)) ≡ l.initial.out.items ++ items_text false (numbers_from l.first (l.end - l.first));
  longer : vec_len l.out + 21 * (l.end - l.number) ≤ vec_len l.initial.out + 21 * (l.end - l.first);
  capacity : vec_capacity l.initial.out ≤ vec_capacity l.out;
}
