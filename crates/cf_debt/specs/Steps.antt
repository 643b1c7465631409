-- What the register's parts promise, and what they ask.
use Rattle.std.specs.Prelude.{◌≡◌, ℕ, ◌+◌, ◌*◌, ◌<◌, ◌==◌, Bool, List, [], ◌∷◌, length, get_or, Some, option_map, IfSome, is_some, true}
use Rattle.std.specs.List.{filter}
use Rattle.cf_model.specs.Common.{Day, BondIssue, Terms, Bond, Due, next_due, year_of_day, number_of_day, bond_at}
use Rattle.cf_chart.specs.Common.{Plan}
use Rattle.cf_debt.specs.declared.debt.BondNow.{BondNow}
use Rattle.cf_debt.specs.declared.rows.BondRow.{BondRow}
use Rattle.cf_debt.specs.declared.rows.NewDebt.{NewDebt}
use Rattle.cf_debt.specs.Register.{Debts}
use Rattle.cf_debt.specs.Rows.{IsBond, IsSmallDue, view_bond, view_payment}

-- a row tells its bond, and its next payment
pub record ShowsBond (n : ℕ) (d : Debts) (x : BondNow) : Type 0 where
  pub all : List Due
  pub is : bond_at n d.bonds ≡ Some (view_bond all x.row)
  pub alone : filter (λ b. b.number == n) d.bonds ≡ view_bond all x.row ∷ []
  pub bond : IsBond all x.row
  pub next : option_map view_payment x.next ≡ next_due (view_bond all x.row)
  pub small : IfSome x.next (λ p. IsSmallDue (view_payment p))

-- a bond is there, and has something left to pay
pub record CanPay (n : ℕ) (d : Debts) : Type 0 where
  pub bond : Bond
  pub is : bond_at n d.bonds ≡ Some bond
  pub left : is_some (next_due bond) ≡ true

-- new debt of these terms
abbrev pub issue_of : NewDebt → Terms → BondIssue
issue_of d terms = record { fund = d.fund; amount = d.amount; terms = terms }

-- a new bond or lease, whose payments begin at a place
abbrev pub bond_row : Plan → Day → ℕ → Bool → BondIssue → ℕ → BondRow
bond_row plan on number is_lease i start = record {
  number = number;
  is_lease = is_lease;
  fund = i.fund;
  amount = i.amount;
  year = year_of_day plan on;
  month = number_of_day plan on;
  terms = record { every = i.terms.every; day = on.day; rate_bp = i.terms.rate_bp };
  start = start;
  count = length i.terms.principals;
  last = number_of_day plan on + i.terms.every * length i.terms.principals;
  paid = 0;
}

-- bonds have the numbers 1, 2, 3 ..
abbrev pub AreNumbered : List BondRow → Type 0
AreNumbered rows = (k : ℕ) (d : BondRow) → k < length rows → (get_or rows k d).number ≡ k + 1

-- a row of which one payment more is paid
abbrev pub paid_row : BondRow → BondRow
paid_row r = record r { paid = r.paid + 1 }
