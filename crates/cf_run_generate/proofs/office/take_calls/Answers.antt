use Rattle.std.proofs.Common.{◌+◌, ◌∷◌, [], ◌++◌, ◌∙◌, ap, sym, subst}
use Rattle.cf_calls.specs.Common.{IsActInForm}
use Rattle.cf_run_generate.specs.Acts.{change_of, first_day}
use Rattle.cf_run_generate.specs.Generated.{adoptions, after, drawn, receipts}
use Rattle.cf_run_generate.specs.Turns.{first_turn}
use Rattle.cf_run_generate.proofs.Forms.{close_form}
use Rattle.cf_run_generate.proofs.Stepping.{four}
use Rattle.cf_run_generate.proofs.office.take_calls.Goals as goal

pub take-requires : goal.take-requires
take-requires c = subst (IsActInForm first_day) (sym c.month_close.ensures) close_form

pub returns-clause-ok : goal.returns-clause-ok
returns-clause-ok c =
    let plan = c.args.office.now.plan in
    let h = c.args.office.now.entries in
    let n = c.args.n in
    four plan _ _ _ h _ _ _ _ adoptions receipts (drawn n 7 (first_turn n)) (change_of (n + 7) c.month_close.result) c.adopt_budgets.ensures.plan c.receive_cash.ensures.plan c.take_drawn.ensures.plan
    c.in_ok-adopt_budgets.ensures.ok c.in_ok-receive_cash.ensures.ok c.in_ok-take_drawn.ensures.ok c.in_ok-take.ensures.ok
    ∙ ap (λ a. after plan h (adoptions ++ (receipts ++ (drawn n 7 (first_turn n) ++ change_of (n + 7) a ∷ [])))) c.month_close.ensures
