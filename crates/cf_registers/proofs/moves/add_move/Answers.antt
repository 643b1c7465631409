use Rattle.std.proofs.Common.{◌≡◌, ◌∙◌, sym, ap, option_map, true, arith}
use Rattle.cf_base.proofs.Common.{common_steps}
use Rattle.cf_registers.specs.Moved.{is_inside}
use Rattle.cf_registers.proofs.moves.add_move.Goals as goal

pub returns-clause-inside : goal.returns-clause-inside
returns-clause-inside c =
    let here : is_inside c.args.chart.now c.in-Some.line.number c.args.moved.now.year ≡ true = grind (arith, common_steps) in
    c.merge.ensures.places (is_inside c.args.chart.now) here c.requires.inside

pub returns-clause-lines : goal.returns-clause-lines
returns-clause-lines c p lends all =
    let here : p c.in-Some.line.number ≡ true = lends _ (sym c.line_of.ensures.value ∙ ap (option_map (λ l. l.number)) c.in-Some.is) in
    c.merge.ensures.places (λ line year. p line) here all
