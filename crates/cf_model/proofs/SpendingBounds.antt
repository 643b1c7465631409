-- What an act spends beside documents: at most two amounts, in years that have numbers.
use Rattle.std.proofs.Common.{◌≡◌, ℕ, zero, suc, ◌≤◌, ◌<◌, true, ◌==◌, List, [], ◌∷◌, slice_get, arith, filter}
use Rattle.cf_base.proofs.Common.{AllByRecursion}
use Rattle.cf_base.specs.declared.calendar.Day.{Day}
use Rattle.cf_base.specs.Common.{is_day}
use Rattle.cf_calls.specs.declared.acts.Act.{Act}
use Rattle.cf_calls.specs.declared.acts.Act.TheVariants as act
use Rattle.cf_calls.specs.declared.acts.DebtPayment.{DebtPayment}
use Rattle.cf_calls.specs.declared.acts.LeaveAct.TheVariants.{Earn, Use, Mature}
use Rattle.cf_chart.specs.Common.{Plan}
use Rattle.cf_model.specs.Common.{Bond, Due, dues, next_due, year_at, Registers, Spending, bonds_spendings, due_spendings, spendings_by}
use Rattle.cf_model.proofs.BookYears.{IsTimely}
use Rattle.cf_model.proofs.Posted.{all_filter}
use Rattle.cf_model.proofs.Tidy.{all_append}
use Rattle.cf_model.proofs.Years.{document_within}

-- ---- how many

-- ---- in which years

abbrev pub AreInYears : List Spending → Type 0
AreInYears xs = AllByRecursion (λ (x : Spending). x.year < 2201) xs

due_within : (plan : Plan) (d : DebtPayment) (b : Bond) → IsTimely plan b → AreInYears (due_spendings plan d b (next_due b))
due_within plan d b timely = by_next (dues b) b.paid timely
  where
    by_next : (ps : List Due) (k : ℕ) → AllByRecursion (λ (p : Due). year_at plan p.month ≤ 2200) ps → AreInYears (due_spendings plan d b (slice_get ps k))
    by_next [] k timely = tt
    by_next (p ∷ ps) zero timely = (omega (arith, timely.0), (omega (arith, timely.0), tt))
    by_next (p ∷ ps) (suc k) timely = by_next ps k timely.1

bonds_within : (plan : Plan) (d : DebtPayment) (bonds : List Bond) → AllByRecursion (IsTimely plan) bonds → AreInYears (bonds_spendings plan d bonds)
bonds_within plan d [] timely = tt
bonds_within plan d (b ∷ bonds) timely =
    all_append (λ (x : Spending). x.year < 2201) (due_spendings plan d b (next_due b)) (bonds_spendings plan d bonds) (due_within plan d b timely.0) (bonds_within plan d bonds timely.1)

pub spendings_within : (plan : Plan) (s : Registers) (on : Day) (a : Act) → is_day on ≡ true → AllByRecursion (IsTimely plan) s.bonds → AreInYears (spendings_by plan s on a)
spendings_within plan s on (act.PayDue d) day timely = bonds_within plan d (filter (λ b. b.number == d.bond) s.bonds) (all_filter (IsTimely plan) _ s.bonds timely)
spendings_within plan s on (act.Leave (Mature l)) day timely = (document_within plan on (act.Leave (Mature l)) day, tt)
spendings_within plan s on (act.Leave (Earn l)) day timely = tt
spendings_within plan s on (act.Leave (Use l)) day timely = tt
spendings_within plan s on (act.Lease l) day timely = (document_within plan on (act.Lease l) day, tt)
spendings_within plan s on _ day timely = tt
