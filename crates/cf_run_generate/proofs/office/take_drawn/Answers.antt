use Rattle.std.proofs.Common.{◌≡◌, ◌+◌, ◌∙◌, ap, sym, subst, refl, arith}
use Rattle.cf_calls.specs.Common.{IsActInForm}
use Rattle.cf_calls.specs.declared.call.Call.TheVariants as call
use Rattle.cf_model.specs.Common.{next_of}
use Rattle.cf_run_generate.specs.Acts.{act_of, change_of, first_day}
use Rattle.cf_run_generate.specs.Generated.{after, drawn}
use Rattle.cf_run_generate.specs.Turns.{first_turn}
use Rattle.cf_run_generate.proofs.Forms.{Holds, act_form, first_holds, turn_holds}
use Rattle.cf_run_generate.proofs.Stepping.{went_on, went_through}
use Rattle.cf_run_generate.proofs.office.take_drawn.Goals as goal

pub loop-i-init : goal.loop-i-init
loop-i-init c =
    let plan = c.args.office.now.plan in
    let h = c.args.office.now.entries in
    (subst (Holds 0) (sym c.first-turn.ensures.value) (first_holds c.args.n), refl, (c.args.n, omega arith, ap (λ t. after plan h (drawn c.args.n 7 t)) c.first-turn.ensures.value))

pub act_of-requires : goal.act_of-requires
act_of-requires c = c.loop-i.invariant.0.waiting

pub take-requires : goal.take-requires
take-requires c = subst (IsActInForm first_day) (sym c.in_ok-act.ensures) (act_form c.loop-i.turn)

pub next-turn-requires-clause-seed : goal.next-turn-requires-clause-seed
next-turn-requires-clause-seed c = c.loop-i.invariant.0.seed

pub next-turn-requires-clause-orders : goal.next-turn-requires-clause-orders
next-turn-requires-clause-orders c = omega (arith, c.loop-i.invariant.0.orders, c.loop-i-test.true, c.requires)

pub loop-i-preserved : goal.loop-i-preserved
loop-i-preserved c =
    let inv = c.loop-i.invariant in
    let i = c.loop-i.i in
    let plan = c.args.office.now.plan in
    let h = c.args.office.now.entries in
    let old = c.loop-i.office.entries in
    let taken : c.take.new.office.entries ≡ next_of plan old (call.Change (change_of (i + 7) (act_of c.loop-i.turn))) =
    c.in_ok-take.ensures.ok ∙ (λ j. next_of (inv.1 j) old (call.Change (change_of (i + 7) (c.in_ok-act.ensures j)))) in
    let on = went_on plan (after plan h (drawn c.args.n 7 (first_turn c.args.n))) old c.take.new.office.entries inv.2.0 i c.args.n c.loop-i.turn c.next-turn.result inv.2.1 c.loop-i-test.true c.next-turn.ensures taken inv.2.2 in
    (subst (Holds (i + 1)) (sym c.next-turn.ensures) (turn_holds i c.loop-i.turn inv.0), c.take.ensures.plan ∙ inv.1, (on.0, on.1, on.2))

pub returns-clause-ok : goal.returns-clause-ok
returns-clause-ok c =
    let inv = c.loop-i.invariant in
    let plan = c.args.office.now.plan in
    let h = c.args.office.now.entries in
    went_through plan (after plan h (drawn c.args.n 7 (first_turn c.args.n))) c.loop-i.office.entries inv.2.0 c.loop-i.i c.args.n c.loop-i.turn inv.2.1 c.loop-i-test.false inv.2.2
