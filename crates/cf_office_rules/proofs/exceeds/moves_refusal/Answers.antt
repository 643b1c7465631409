use Rattle.std.proofs.Common.{◌≡◌, true, ◌∙◌, sym, ap, subst, List, None, ℕ, ℤ, All}
use Rattle.cf_budget.specs.Tables.{has_line}
use Rattle.cf_budget.specs.declared.changes.LineChange.{LineChange}
use Rattle.cf_chart.specs.Common.{Plan}
use Rattle.cf_model.specs.Common.{Registers, registers_of}
use Rattle.cf_model.specs.LineNumbers as numbers
use Rattle.cf_office_rules.specs.Least.{refusal_in, least_from, excess_by}
use Rattle.cf_registers.specs.Moved.{act_moves, moves_row, Make}
use Rattle.cf_office_rules.proofs.Least.{merged_least}
use Rattle.cf_registers.proofs.Lending.{are_touched, touched_lent}
use Rattle.cf_office_rules.proofs.exceeds.moves_refusal.Goals as goal

pub least_excess-requires-clause-lent : goal.least_excess-requires-clause-lent
least_excess-requires-clause-lent c =
    let lends = has_line c.args.history.now.lines in
    let act = c.args.act.now in
    let changes : List LineChange = c.merged_moves-changes.result.items in
    let touched = subst (λ (p : Plan). are_touched p act changes ≡ true) c.chart.ensures.value c.merged_moves-changes.ensures.touched in
    subst (λ (xs : List LineChange). All (λ (x : LineChange). lends x.line.number ≡ true) xs) (sym c.as_slice.ensures.value)
    (touched_lent c.args.history.now.plan lends act changes c.requires.lent touched)

pub returns : goal.returns
returns c =
    let plan = c.args.history.now.plan in
    let h = c.args.history.now.entries in
    let rooms : ℕ → ℕ → ℤ = λ line year. numbers.room plan line year h in
    let changes : List LineChange = c.merged_moves-changes.result.items in
    let make : Make plan (moves_row plan (act_moves plan (registers_of plan h) c.args.on c.args.act.now)) changes =
    subst (λ (p : Plan). Make p (moves_row p (act_moves p (registers_of plan h) c.args.on c.args.act.now)) changes) c.chart.ensures.value
    (subst (λ (s : Registers). Make c.chart.result.now (moves_row c.chart.result.now (act_moves c.chart.result.now s c.args.on c.args.act.now)) changes) c.registers.ensures c.merged_moves-changes.ensures.made) in
    c.refusal_of.ensures
    ∙ ap refusal_in (c.least_excess.ensures ∙ ap (least_from (excess_by rooms) None) c.as_slice.ensures.value)
    ∙ merged_least plan rooms (act_moves plan (registers_of plan h) c.args.on c.args.act.now) changes make
