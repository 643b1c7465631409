-- What is due next of a bond or a lease, as `open` has it, is what its payment takes and makes.
use Rattle.std.proofs.Common.{◌≡◌, ℕ, ◌+◌, eq-eqb, if◌then◌else◌, ◌==◌, List, [], ◌∷◌, Option, Some, None, option_map, sum_by, refl, ap, ◌∙◌, arith, option_to_list}
use Rattle.cf_base.proofs.Common.{AllByRecursion}
use Rattle.cf_model.specs.Common.{Act, Entry, Bond, Due, next_due, due_cash, accrued_by, outstanding, due_day, Registers, registers_of, bond_at, made_paid, made_payment, IsLegal}
use Rattle.cf_calls.specs.declared.acts.Act.TheVariants as act
use Rattle.cf_calls.specs.declared.shown.Shown.TheVariants as shown
use Rattle.cf_chart.specs.Common.{Plan}
use Rattle.cf_debt.specs.Register.{due_if, due_now}
use Rattle.cf_model.proofs.Common.{bonds_named}
use Rattle.cf_registers.specs.Dues.{due_amount}
use Rattle.cf_books_lists.specs.declared.open.Section.TheVariants.{Debts}
use Rattle.cf_books_lists.specs.Open.{look_by}
use Rattle.cf_books_lists.specs.OpenDues.{DuesAreAsked, IsOfNext, made_due}
use Rattle.cf_books_lists.specs.OpenSums.{debt_parts, parts_looked, parts_of, parts_shown}

-- ---- the rows

module _ (plan : Plan) (closed : ℕ) where
  next_is : (b : Bond) (owed : ℕ) (o : Option Due) → AllByRecursion IsOfNext (debt_parts (due_if plan b o) owed (option_map (due_day plan b) o))
  next_is b owed None = tt
  next_is b owed (Some p) = (refl, tt)

  bond_is : (o : Option Bond) → AllByRecursion IsOfNext
      (parts_shown (due_now plan o) (option_map (λ b. shown.Bond (accrued_by closed b) (option_map (due_day plan b) (next_due b)) (outstanding b)) o))
  bond_is None = tt
  bond_is (Some b) = next_is b (outstanding b) (next_due b)

row_is : (plan : Plan) (s : Registers) (e : Entry) (a : Act) → AllByRecursion IsOfNext (parts_looked plan s (look_by Debts a e))
row_is plan s e (act.Issue i) = bond_is plan s.closed (bond_at e.drawn.number s.bonds)
row_is plan s e (act.Lease l) = bond_is plan s.closed (bond_at e.drawn.second s.bonds)
row_is plan s e _ = tt

rows_are : (plan : Plan) (s : Registers) (entries : List Entry) → AllByRecursion (λ e. AllByRecursion IsOfNext (parts_of plan s Debts e)) entries
rows_are plan s [] = tt
rows_are plan s (e ∷ entries) = (row_is plan s e e.change.act, rows_are plan s entries)

-- ---- the payment

own : (fund n : ℕ) → 0 + (if fund == fund then n else 0) ≡ n
own fund n = ap (λ t. 0 + (if t then n else 0)) (eq-eqb fund fund refl) ∙ no_more n
  where
    no_more : (n : ℕ) → 0 + n ≡ n
    no_more n = omega arith

taken_is : (plan : Plan) (fund : ℕ) (o : Option Bond) → sum_by (λ b. if fund == fund then due_cash b (next_due b) else 0) (option_to_list o) ≡ due_amount (due_now plan o)
taken_is plan fund None = refl
taken_is plan fund (Some b) = own fund (due_cash b (next_due b)) ∙ by_next (next_due b)
  where
    by_next : (o : Option Due) → due_cash b o ≡ due_amount (due_if plan b o)
    by_next None = refl
    by_next (Some p) = refl

made_is : (plan : Plan) (o : Option Bond) → made_paid o ≡ made_due (due_now plan o)
made_is plan None = refl
made_is plan (Some b) = by_next (next_due b)
  where
    by_next : (o : Option Due) → made_payment b o ≡ made_due (due_if plan b o)
    by_next None = refl
    by_next (Some p) = refl

pub dues_are_asked : (plan : Plan) (h : List Entry) → IsLegal plan h → DuesAreAsked plan h
dues_are_asked plan h legal =
    let s = registers_of plan h in
    record {
      days = rows_are plan s h;
      cash = λ p.
          ap (λ (bonds : List Bond). sum_by (λ b. if p.fund == p.fund then due_cash b (next_due b) else 0) bonds) (bonds_named plan h legal p.bond)
          ∙ taken_is plan p.fund (bond_at p.bond s.bonds);
      reply = λ p on drawn. made_is plan (bond_at p.bond s.bonds);
    }
