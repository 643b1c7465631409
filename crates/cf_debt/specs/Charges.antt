-- What a month charges of a bond's payments, of which at most two earn in a month.
use Rattle.std.specs.Prelude.{ℕ, ◌+◌, ◌-◌, false, if◌then◌else◌, ◌==◌, List, [], ◌∷◌}
use Rattle.cf_debt.specs.declared.rows.RowTerms.{RowTerms}
use Rattle.cf_model.specs.Common.{Bond, Due, interest_for, days_by}

-- a bond of these terms
abbrev pub bond_of : RowTerms → Bond
bond_of t = record {
  number = 0;
  is_lease = false;
  fund = 0;
  amount = 0;
  year = 0;
  month = 0;
  day = t.day;
  rate_bp = t.rate_bp;
  every = t.every;
  principals = [];
  paid = 0;
}

abbrev pub first_part : Bond → ℕ → List Due → ℕ
first_part b months [] = 0
first_part b months (p ∷ ps) = interest_for b p (days_by months b p)

-- of the payments from the first on that isn't due before the month: of that one, and where it is
-- due in the month, of the next
abbrev pub running_charge : Bond → ℕ → List Due → ℕ
running_charge b month [] = 0
running_charge b month (p ∷ ps) =
    (interest_for b p (days_by (month + 1) b p) - interest_for b p (days_by month b p))
    + (if p.month == month then first_part b (month + 1) ps else 0)
