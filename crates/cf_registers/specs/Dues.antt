-- What a payment that is due takes of cash, and what payments, leave and leases spend of lines.
use Rattle.std.specs.Prelude.{ℕ, ◌+◌, List, [], ◌∷◌, Option, Some, None}
use Rattle.cf_model.specs.Common.{DebtPayment, LeaveMaturity, NewLease, Spending}
use Rattle.cf_debt.specs.declared.debt.Due.{Due}

-- its principal and its interest, and nothing where nothing is due
abbrev pub due_amount : Option Due → ℕ
due_amount None = 0
due_amount (Some d) = d.principal + d.interest

-- on the two accounts of the payment, in the year in which it is due
abbrev pub spent_now : DebtPayment → Due → List Spending
spent_now p d =
    record {
      account = record
          { fund = p.fund; dept = p.dept; object = p.principal; amount = d.principal };
      year = d.year;
    }
    ∷ record {
      account = record { fund = p.fund; dept = p.dept; object = p.interest; amount = d.interest };
      year = d.year;
    }
    ∷ []

-- leave that is paid out in a year
abbrev pub paid_leave : LeaveMaturity → ℕ → List Spending
paid_leave l year =
    record {
      account = record
          { fund = l.fund; dept = l.dept; object = l.object; amount = l.amount };
      year = year;
    } ∷ []

-- a lease, in the year in which it begins
abbrev pub leased : NewLease → ℕ → List Spending
leased l year = record { account = l.account; year = year } ∷ []
