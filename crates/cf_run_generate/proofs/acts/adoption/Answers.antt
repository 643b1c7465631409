use Rattle.std.proofs.Common.{◌≡◌, ◌+◌, ◌++◌, ◌∷◌, [], ◌∙◌, ap, sym, arith, map}
use Rattle.cf_base.proofs.Common.{range_with_len, map-range_with_len_more}
use Rattle.cf_run_generate.specs.Acts.{line_amount}
use Rattle.cf_model.specs.Common.{Adopt}
use Rattle.cf_run_generate.proofs.acts.adoption.Goals as goal

pub loop-line-init : goal.loop-line-init
loop-line-init c = (0, omega arith, c.new-lines.ensures)

pub loop-line-preserved : goal.loop-line-preserved
loop-line-preserved c =
    let i = c.loop-line.invariant in
    (i.0 + 1, omega (arith, i.1), c.in_ok-push.ensures.ok ∙ ap (λ xs. xs ++ line_amount c.loop-line.line ∷ []) i.2 ∙ sym (map-range_with_len_more line_amount c.args.first i.0 c.loop-line.line i.1))

pub returns : goal.returns
returns c =
    let i = c.loop-line.invariant in
    let upper = c.loop-line.auto.line-end (omega arith) in
    let all : i.0 ≡ c.args.count = omega (arith, i.1, upper, c.loop-line-test.false) in
    λ j. Adopt (record { fund = c.args.fund; year = 2026; lines = (i.2 ∙ ap (λ k. map line_amount (range_with_len c.args.first k)) all) j; estimates = c.new.ensures j })
