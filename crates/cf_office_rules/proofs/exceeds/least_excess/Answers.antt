use Rattle.std.proofs.Common.{◌≡◌, true, ◌<◌, ◌≤◌, ◌+◌, ◌∙◌, length, drop, sym, ap, rules, Option}
use Rattle.cf_base.proofs.Common.{All-get_or, AllPass-from_list_all}
use Rattle.cf_budget.specs.Tables.{has_line}
use Rattle.cf_budget.specs.declared.changes.LineChange.{LineChange}
use Rattle.cf_model.specs.LineNumbers as numbers
use Rattle.cf_office_rules.specs.declared.exceeds.Excess.{Excess}
use Rattle.cf_office_rules.specs.Least.{lesser, least_from, excess_by}
use Rattle.cf_registers.specs.Moved.{is_inside, AreSmallSums}
use Rattle.cf_office_rules.proofs.Least.{least_from-drop, least_from-past}
use Rattle.cf_office_rules.proofs.exceeds.least_excess.Goals as goal

pub change_excess-requires-clause-inside : goal.change_excess-requires-clause-inside
change_excess-requires-clause-inside c =
    let l : c.loop-change.change-index < length c.args.changes.now = search rules in
    AllPass-from_list_all (λ (x : LineChange). is_inside c.args.history.now.plan x.line.number x.year) c.args.changes.now c.requires.inside c.loop-change.change-index _ l

pub change_excess-requires-clause-lent : goal.change_excess-requires-clause-lent
change_excess-requires-clause-lent c =
    let l : c.loop-change.change-index < length c.args.changes.now = search rules in
    All-get_or (λ (x : LineChange). has_line c.args.history.now.lines x.line.number ≡ true) c.args.changes.now c.loop-change.change-index _ l c.requires.lent

pub change_excess-requires-clause-small : goal.change_excess-requires-clause-small
change_excess-requires-clause-small c =
    let l : c.loop-change.change-index < length c.args.changes.now = search rules in
    All-get_or (λ (x : LineChange). AreSmallSums x.by) c.args.changes.now c.loop-change.change-index _ l c.requires.small

pub loop-change-preserved : goal.loop-change-preserved
loop-change-preserved c =
    let l : c.loop-change.change-index < length c.args.changes.now = search rules in
    let test = excess_by (λ line year. numbers.room c.args.history.now.plan line year c.args.history.now.entries) in
    ap (λ (best : Option Excess). least_from test best (drop (c.loop-change.change-index + 1) c.args.changes.now)) (c.lesser-best.ensures ∙ ap (lesser c.loop-change.best) c.change_excess.ensures)
    ∙ sym (least_from-drop test c.loop-change.best c.args.changes.now c.loop-change.change-index _ l)
    ∙ c.loop-change.invariant

pub returns : goal.returns
returns c =
    let done : length c.args.changes.now ≤ c.loop-change.change-index = search rules in
    sym (least_from-past (excess_by (λ line year. numbers.room c.args.history.now.plan line year c.args.history.now.entries)) c.loop-change.best c.args.changes.now c.loop-change.change-index done) ∙ c.loop-change.invariant
