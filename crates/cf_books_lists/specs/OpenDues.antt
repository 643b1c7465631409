-- What `open` says to be due next of bonds and leases is what the office asks of the call that pays
-- it.
use Rattle.std.specs.Prelude.{◌≡◌, List, Option, Some, None, option_map}
use Rattle.std.specs.List.{AllByRecursion}
use Rattle.cf_model.specs.Common.{Day, PayDue, DebtPayment, Drawn, Entry, Made, cash_taken, registers_of, made_by}
use Rattle.cf_calls.specs.declared.read.Read.TheVariants as read
use Rattle.cf_calls.specs.declared.reply.Made.TheVariants as made
use Rattle.cf_chart.specs.Common.{Plan}
use Rattle.cf_debt.specs.declared.debt.Due.{Due}
use Rattle.cf_registers.specs.Dues.{due_amount}
use Rattle.cf_books_lists.specs.declared.open.Part.{Part}
use Rattle.cf_books_lists.specs.declared.open.Section.TheVariants.{Debts}
use Rattle.cf_books_lists.specs.Open.{due_at}
use Rattle.cf_books_lists.specs.OpenSums.{parts_of}

-- a row says what is due on the day that it names
abbrev pub IsOfNext : Part → Type 0
IsOfNext p = p.next ≡ option_map (λ d. d.day) p.due

-- what a payment makes where this is due
abbrev pub made_due : Option Due → Made
made_due None = made.Nothing
made_due (Some d) = made.Paid d.interest d.principal

pub record DuesAreAsked (plan : Plan) (history : List Entry) : Type 0 where
  -- each row of a bond or a lease has the payment of its day
  pub days : AllByRecursion
      (λ e. AllByRecursion IsOfNext (parts_of plan (registers_of plan history) Debts e)) history
  -- the payment takes principal and interest of the cash of its fund, on whichever day it is made
  pub cash : (p : DebtPayment) →
      cash_taken (registers_of plan history) p.fund (PayDue p)
      ≡ due_amount (due_at plan (registers_of plan history) (read.Bond p.bond))
  -- and the reply to it says both
  pub reply : (p : DebtPayment) (on : Day) (drawn : Drawn) →
      made_by plan (registers_of plan history) on drawn (PayDue p)
      ≡ made_due (due_at plan (registers_of plan history) (read.Bond p.bond))
