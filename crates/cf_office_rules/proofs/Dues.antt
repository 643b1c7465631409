-- What the payment that is due of a bond makes, as the register of debt tells it.
use Rattle.std.proofs.Common.{◌≡◌, ℕ, List, Option, Some, None, refl, sym, ap, ◌∙◌, option_to_list}
use Rattle.cf_model.specs.Common.{Entry, Refusal, Bond, Due, next_due, unadopted_due, registers_of, bond_at, adopted_at, first_refusal, or_else, unadopted_where}
use Rattle.cf_chart.specs.Common.{Plan}
use Rattle.cf_debt.specs.declared.debt.Due.{Due as DueNow}
use Rattle.cf_debt.specs.Register.{Debts, debts_of, due_if, due_now}

some_is : {A : Type 0} {a b : A} → Some a ≡ Some b → a ≡ b
some_is e = cc

-- what is due over a history, as it is read off the register
pub due_over : (plan : Plan) (h : List Entry) (chart : Plan) (debts : Debts) (bond : ℕ) (r : Option DueNow) → chart ≡ plan → debts ≡ debts_of (registers_of plan h) → r ≡ due_now chart (bond_at bond debts.bonds) →
    due_now plan (bond_at bond (registers_of plan h).bonds) ≡ r
due_over plan h chart debts bond r plans registers is = sym (is ∙ (λ i. due_now (plans i) (bond_at bond (registers i).bonds)))

-- ---- deeds

-- ---- what is spent of lines

-- ---- the budget of its year

alone : (r : Option Refusal) → or_else r None ≡ r
alone None = refl
alone (Some r) = refl

pub paid_unadopted : (plan : Plan) (h : List Entry) (fund : ℕ) (o : Option Bond) (d : DueNow) → due_now plan o ≡ Some d →
    first_refusal (λ b. unadopted_due plan h fund (next_due b)) (option_to_list o) ≡ unadopted_where fund d.year (adopted_at fund d.year h)
paid_unadopted plan h fund None d e = cc
paid_unadopted plan h fund (Some b) d e = alone (unadopted_due plan h fund (next_due b)) ∙ by_next (next_due b) e
  where
    by_next : (o : Option Due) → due_if plan b o ≡ Some d → unadopted_due plan h fund o ≡ unadopted_where fund d.year (adopted_at fund d.year h)
    by_next None e = cc
    by_next (Some p) e = ap (λ (x : DueNow). unadopted_where fund x.year (adopted_at fund x.year h)) (some_is e)

pub no_unadopted : (plan : Plan) (h : List Entry) (fund : ℕ) (o : Option Bond) → due_now plan o ≡ None → first_refusal (λ b. unadopted_due plan h fund (next_due b)) (option_to_list o) ≡ None
no_unadopted plan h fund None e = refl
no_unadopted plan h fund (Some b) e = alone (unadopted_due plan h fund (next_due b)) ∙ by_next (next_due b) e
  where
    by_next : (o : Option Due) → due_if plan b o ≡ None → unadopted_due plan h fund o ≡ None
    by_next None e = refl
    by_next (Some p) e = cc

-- ---- results
