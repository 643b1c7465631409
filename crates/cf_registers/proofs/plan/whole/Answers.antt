use Rattle.std.proofs.Common.{◌≡◌, ◌≤◌, ℕ, true, List, length, subst}
use Rattle.cf_base.proofs.Common.{list_all}
use Rattle.cf_model.specs.Common.{Department, Function}
use Rattle.cf_chart.specs.Common.{has_function, is_rising}
use Rattle.cf_model.proofs.Functions as model
use Rattle.cf_registers.proofs.plan.whole.Goals as goal

pub returns : goal.returns
returns c =
    let year = c.first_year-year.ensures in
    let month = c.first_month-month.ensures in
    let functions = c.functions-functions.ensures in
    let departments = c.depts-departments.ensures in
    model.whole c.args.chart.now
    (subst (λ (n : ℕ). 1971 ≤ n) year.value year.from)
    (subst (λ (n : ℕ). 1 ≤ n) month.value month.from)
    (subst (λ (n : ℕ). n ≤ 12) month.value month.to)
    (subst (λ (xs : List Function). is_rising (λ (f : Function). f.id) xs ≡ true) functions.value functions.rising)
    (subst (λ (xs : List Function). length xs ≤ 64) functions.value functions.few)
    (subst (λ (xs : List Department). list_all (has_function c.args.chart.now.functions) xs ≡ true) departments.value departments.known)
