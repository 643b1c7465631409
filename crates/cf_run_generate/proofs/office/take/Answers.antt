use Rattle.std.proofs.Common.{◌∙◌, ap, sym, subst}
use Rattle.cf_calls.specs.Common.{IsChangeInForm}
use Rattle.cf_calls.specs.declared.call.Call.TheVariants as call
use Rattle.cf_model.specs.Common.{next_of, verdict_of}
use Rattle.cf_run_generate.proofs.Forms.{change_form}
use Rattle.cf_run_generate.proofs.Stepping.{drawn_none, drawn_some, next_some}
use Rattle.cf_run_generate.proofs.office.take.Goals as goal

pub accepted-requires : goal.accepted-requires
accepted-requires c = subst IsChangeInForm (sym c.in_ok-change.ensures) (change_form c.args.number c.args.act c.ranges.number.fits c.requires)

pub add-requires-clause-form : goal.add-requires-clause-form
add-requires-clause-form c = subst IsChangeInForm (sym c.in_ok-change.ensures) (change_form c.args.number c.args.act c.ranges.number.fits c.requires)

pub add-requires-clause-accepted : goal.add-requires-clause-accepted
add-requires-clause-accepted c = drawn_some (verdict_of c.args.office.now.plan c.args.office.now.entries c.in_ok-change.change) c.in-Some.drawn (sym c.in-Some.ensures)

pub returns-in_ok-add-in-Some-clause-ok : goal.returns-in_ok-add-in-Some-clause-ok
returns-in_ok-add-in-Some-clause-ok c =
    let plan = c.args.office.now.plan in
    let h = c.args.office.now.entries in
    c.in_ok-add-in-Some.ensures.ok ∙ next_some plan h c.in_ok-change.change c.in-Some.drawn (drawn_some (verdict_of plan h c.in_ok-change.change) c.in-Some.drawn (sym c.in-Some.ensures))
    ∙ ap (λ x. next_of plan h (call.Change x)) c.in_ok-change.ensures

pub returns-in-None-clause-ok : goal.returns-in-None-clause-ok
returns-in-None-clause-ok c =
    let plan = c.args.office.now.plan in
    let h = c.args.office.now.entries in
    sym (drawn_none (verdict_of plan h c.in_ok-change.change) h c.in_ok-change.change (sym c.in-None.ensures)) ∙ ap (λ x. next_of plan h (call.Change x)) c.in_ok-change.ensures
