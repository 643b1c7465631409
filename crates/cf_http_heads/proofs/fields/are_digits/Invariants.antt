use Rattle.std.proofs.Common.{◌≡◌, drop}
use Rattle.cf_base.proofs.Common.{list_all, is_ascii_digit}
use Rattle.cf_http_heads.proofs.fields.are_digits.Given as goal

abbrev pub invariant-loop-byte : goal.invariant-loop-byte
invariant-loop-byte l = list_all is_ascii_digit (drop l.byte-index l.text) ≡ list_all is_ascii_digit l.text
