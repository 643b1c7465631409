use Rattle.std.proofs.Common.{◌+◌, nat_lt, arith}
use Rattle.cf_json_members.proofs.Numbers.{push_number}
use Rattle.cf_json_members.proofs.parts.put_numbers.Goals as goal

pub loop-number-preserved : goal.loop-number-preserved
loop-number-preserved c = record {
  text =
      push_number c.loop-number.out.items c.put_next_number.new.out.items _ (nat_lt c.from-first.result c.loop-number.number) c.from-first.result c.loop-number.number (c.from-first.result + c.from.result)
      (omega arith) (omega arith) c.in_ok-put_next_number.ensures.text c.loop-number.invariant.text;
  longer = omega (arith, c.put_next_number.ensures.longer);
  capacity = omega (arith, c.put_next_number.ensures.capacity);
}
