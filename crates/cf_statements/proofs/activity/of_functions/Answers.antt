use Rattle.std.proofs.Common.{◌≡◌, ◌∙◌, ◌+◌, ◌*◌, ◌∷◌, ap, sym, subst, drop}
use Rattle.cf_statements.specs.declared.activity.Activity.{Activity}
use Rattle.cf_statements.specs.Activities.{AreWithin}
use Rattle.cf_statements.specs.Activities as spec
use Rattle.cf_statements.proofs.Next.{next_item}
use Rattle.cf_statements.proofs.Together.{plus_assoc, within_more}
use Rattle.cf_statements.proofs.activity.of_functions.Goals as goal

pub loop-function-preserved : goal.loop-function-preserved
loop-function-preserved g c =
    let inv = c.loop-function.invariant in
    let sums = g.F.Figures.sums c.args.figures.now in
    let functions = c.args.functions.now in
    let i = c.loop-function.function-index in
    let later = spec.of_functions sums c.args.year c.args.sources.now in
    let function = c.function-item.result in
    let rest : function ∷ drop (i + 1) functions ≡ drop i functions = next_item functions i function c.loop-function-test.true c.function-item.is in
    let one = c.activity_of.result in
    let total = c.loop-function.total in (
      ap (λ (a : Activity). spec.plus a (later (drop (i + 1) functions))) c.plus-total.ensures
          ∙ plus_assoc total one (later (drop (i + 1) functions))
          ∙ ap (λ (a : Activity). spec.plus total (spec.plus a (later (drop (i + 1) functions)))) c.activity_of.ensures.value
          ∙ ap (λ l. spec.plus total (later l)) rest ∙ inv.0,
      subst (AreWithin ((i + 1) * 10425158536276958597908887161012224)) (sym c.plus-total.ensures) (within_more i total one inv.1 c.activity_of.ensures.small),
    )
