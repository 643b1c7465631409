use Rattle.std.proofs.Common.{◌≡◌, ◌++◌, true, drop}
use Rattle.cf_base.proofs.Common.{list_all}
use Rattle.json.specs.Print.{escape}
use Rattle.cf_calls.specs.Common.{is_key_byte}
use Rattle.cf_json_calls.proofs.pieces.put_key.Given as goal

abbrev pub invariant-loop-byte : goal.invariant-loop-byte
invariant-loop-byte l = record {
  text : l.out.items ++ escape (drop l.byte-index l.key) ≡ l.initial.out.items ++ escape l.key;
  plain : list_all is_key_byte (drop l.byte-index l.key) ≡ true;
}
