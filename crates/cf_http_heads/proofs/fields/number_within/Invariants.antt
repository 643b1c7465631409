use Rattle.std.proofs.Common.{◌≡◌, ◌≤◌, drop, true}
use Rattle.cf_base.proofs.Common.{list_all, is_ascii_digit, digits_value, digits_value_after}
use Rattle.cf_http_heads.proofs.fields.number_within.Given as goal

abbrev pub invariant-loop-digit : goal.invariant-loop-digit
invariant-loop-digit l =
    record {
      value : digits_value_after 10 l.number (drop l.digit-index l.digits) ≡ digits_value 10 l.digits;
      digits : list_all is_ascii_digit (drop l.digit-index l.digits) ≡ true;
      within : l.number ≤ l.most;
    }
