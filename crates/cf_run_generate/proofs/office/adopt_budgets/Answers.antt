use Rattle.std.proofs.Common.{◌∷◌, [], ◌∙◌, sym, subst}
use Rattle.cf_calls.specs.Common.{IsActInForm}
use Rattle.cf_run_generate.specs.Acts.{change_of, first_day}
use Rattle.cf_run_generate.specs.Generated.{after}
use Rattle.cf_run_generate.proofs.Forms.{adoption_1, adoption_2, adoption_3}
use Rattle.cf_run_generate.proofs.Stepping.{three}
use Rattle.cf_run_generate.proofs.office.adopt_budgets.Goals as goal

pub take-requires : goal.take-requires
take-requires c = subst (IsActInForm first_day) (sym c.in_ok-first.ensures) adoption_1

pub take-requires-2 : goal.take-requires-2
take-requires-2 c = subst (IsActInForm first_day) (sym c.in_ok-second.ensures) adoption_2

pub take-requires-3 : goal.take-requires-3
take-requires-3 c = subst (IsActInForm first_day) (sym c.in_ok-third.ensures) adoption_3

pub returns-clause-ok : goal.returns-clause-ok
returns-clause-ok c =
    let plan = c.args.office.now.plan in
    let h = c.args.office.now.entries in
    three plan _ _ h _ _ _ (change_of 1 c.in_ok-first.first) (change_of 2 c.in_ok-second.second) (change_of 3 c.in_ok-third.third) c.take.ensures.plan c.take-2.ensures.plan c.in_ok-take.ensures.ok c.in_ok-take-2.ensures.ok c.in_ok-take-3.ensures.ok
    ∙ (λ j. after plan h (change_of 1 (c.in_ok-first.ensures j) ∷ change_of 2 (c.in_ok-second.ensures j) ∷ change_of 3 (c.in_ok-third.ensures j) ∷ []))
