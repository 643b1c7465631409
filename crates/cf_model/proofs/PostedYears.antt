-- The posts of a legal history are in the years of the books.
use Rattle.std.proofs.Common.{◌≡◌, ℕ, ◌≤◌, true, List, [], ◌∷◌, ◌++◌, All, None, sym, subst, arith}
use Rattle.cf_base.proofs.Common.{AllByRecursion, All-from_recursion}
use Rattle.cf_base.specs.declared.calendar.Day.{Day}
use Rattle.cf_base.specs.Common.{is_day}
use Rattle.cf_calls.specs.declared.acts.Act.{Act}
use Rattle.cf_calls.specs.declared.acts.Act.TheVariants as act
use Rattle.cf_calls.specs.declared.acts.Period.TheVariants as period
use Rattle.cf_calls.specs.declared.entry.Entry.{Entry}
use Rattle.cf_calls.specs.declared.read.Basis.{Basis}
use Rattle.cf_calls.specs.Common.{IsActInForm}
use Rattle.cf_chart.specs.Common.{Plan}
use Rattle.cf_ledger.specs.Posts.{IsInYears}
use Rattle.cf_model.specs.Common.{year_of_day, document_year, deeds_of, Expenditure, act_posts, bills_by, Registers, registers_of, no_registers, closed_refusal, period_refusal, order_refusal, Adds, IsLegal}
use Rattle.cf_model.specs.Receivables.{Bill}
use Rattle.cf_model.proofs.Accepted.{accepted}
use Rattle.cf_model.proofs.BookYears.{HasYears, IsTimely, deeds_years, year_at_most}
use Rattle.cf_model.proofs.Holdings.{are_timely}
use Rattle.cf_model.proofs.Lawful.{IsWhole, closes_next}
use Rattle.cf_model.proofs.Legal.{legal_induction}
use Rattle.cf_model.proofs.Posted.{IsBookYear, AreBookYears, all_posts, deed_years}
use Rattle.cf_model.proofs.Pushes.{documents_are, registers_push}
use Rattle.cf_model.proofs.Spent.{IsSpent, are_spent, day_from, not_closed}
use Rattle.cf_model.proofs.Tidy.{all_append}
use Rattle.cf_model.proofs.Totals.{all_so}
use Rattle.cf_model.proofs.Years.{day_year, document_within}

-- an entry's day is of a year of the books
day_in : (plan : Plan) (h : List Entry) (on : Day) → 1971 ≤ plan.first_year → is_day on ≡ true → period_refusal plan h on ≡ None → IsBookYear (year_of_day plan on)
day_in plan h on from day period =
    record { first = omega (arith, from, day_from plan h on period); last = omega (arith, day_year plan on day) }

-- ---- the levy years of bills, by the form of their calls

abbrev AreLevied : List Bill → Type 0
AreLevied bills = AllByRecursion (λ (b : Bill). IsBookYear b.levy_year) bills

new_levied : (number : ℕ) (on : Day) (a : Act) → IsActInForm on a → AreLevied (bills_by number a)
new_levied number on (act.Bill b) form = (record { first = form.from; last = omega (arith, form.to) }, tt)
new_levied number on _ form = tt

pub are_levied : (plan : Plan) (h : List Entry) → IsLegal plan h → AllByRecursion (λ (b : Bill). IsBookYear b.levy_year) (registers_of plan h).receivables.bills
are_levied plan h legal = legal_induction plan (λ h. AreLevied (registers_of plan h).receivables.bills) tt step h legal
  where
    step : (h : List Entry) (e : Entry) → AreLevied (registers_of plan h).receivables.bills → Adds plan h e → AreLevied (registers_of plan (h ++ e ∷ [])).receivables.bills
    step h e levied adds =
        subst (λ (s : Registers). AreLevied s.receivables.bills) (sym (registers_push plan no_registers h e))
        (all_append (λ (b : Bill). IsBookYear b.levy_year) (registers_of plan h).receivables.bills (bills_by e.drawn.number e.change.act) levied
        (new_levied e.drawn.number e.change.on e.change.act adds.form.act))

-- ---- each act's deeds

-- by the rules on months and years, and by the registers, each deed of an act is of such years
has_years : (plan : Plan) (h : List Entry) (on : Day) (a : Act) → IsWhole plan → is_day on ≡ true → IsActInForm on a → closed_refusal plan h on a ≡ None → order_refusal plan (registers_of plan h) a ≡ None →
    AllByRecursion (IsSpent plan) (registers_of plan h).documents.expenditures → AreLevied (registers_of plan h).receivables.bills → AllByRecursion (IsTimely plan) (registers_of plan h).bonds →
    HasYears plan (registers_of plan h) on a
has_years plan h on (act.Voucher v) whole day form closed order spent levied timely =
    record { first = omega (arith, whole.from, not_closed plan h (document_year plan on (act.Voucher v)) closed); last = omega (arith, document_within plan on (act.Voucher v) day) }
has_years plan h on (act.VoidVoucher n) whole day form closed order spent levied timely =
    all_so (IsSpent plan) (λ (x : Expenditure). IsBookYear x.year) (λ x s. record { first = omega (arith, whole.from, s.first); last = s.last }) (registers_of plan h).documents.expenditures spent
has_years plan h on (act.Bill b) whole day form closed order spent levied timely = record { first = form.from; last = omega (arith, form.to) }
has_years plan h on (act.Collect c) whole day form closed order spent levied timely = levied
has_years plan h on (act.PayDue p) whole day form closed order spent levied timely = (whole.from, timely)
has_years plan h on (act.Close (period.Month m)) whole day form closed order spent levied timely =
    let next = closes_next plan (registers_of plan h) whole.calendar (act.Close (period.Month m)) order in
    (whole.from, year_at_most plan (registers_of plan h).closed whole.calendar (omega (arith, next.1, form.to, form.last)))
has_years plan h on (act.Close (period.Year y)) whole day form closed order spent levied timely = tt
has_years plan h on _ whole day form closed order spent levied timely = tt

-- an accepted entry's posts are in the years of the books
pub posts_years : (basis : Basis) (plan : Plan) (h : List Entry) (e : Entry) → IsWhole plan → IsLegal plan h → Adds plan h e →
    All IsInYears (act_posts basis plan (registers_of plan h) e.change.on e.change.act)
posts_years basis plan h e whole legal adds =
    let a = accepted plan h e adds in
    let s = registers_of plan h in
    let spent : AllByRecursion (IsSpent plan) s.documents.expenditures = subst (λ d. AllByRecursion (IsSpent plan) d.expenditures) (sym (documents_are plan h)) (are_spent plan h legal).each in
    All-from_recursion IsInYears (act_posts basis plan s e.change.on e.change.act)
    (all_posts IsInYears AreBookYears basis (deed_years basis) (deeds_of plan s e.change.on e.change.act)
    (deeds_years plan s e.change.on e.change.act (day_in plan h e.change.on whole.from adds.form.on a.period)
    (has_years plan h e.change.on e.change.act whole adds.form.on adds.form.act a.closed a.order spent (are_levied plan h legal) (are_timely plan h whole.calendar legal))))
