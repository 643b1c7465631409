use Rattle.std.proofs.Common.{◌<◌, ◌≤◌, arith, length, subst}
use Rattle.cf_model.specs.Common.{stripe_of, touches}
use Rattle.cf_registers.specs.Moved.{act_moves}
use Rattle.cf_registers.proofs.Lending.{move_touched}
use Rattle.cf_registers.proofs.Makes.{more_fits, made_more, made_small}
use Rattle.cf_registers.proofs.moves.merged_moves.Goals as goal

pub add_if-requires-clause-room : goal.add_if-requires-clause-room
add_if-requires-clause-room c =
    let few = c.moves-nth-end.ensures.few c.args.on c.requires.form in
    omega (arith, few, c.loop-nth-test.true, c.loop-nth.invariant.made.places)

pub add_if-requires-clause-held : goal.add_if-requires-clause-held
add_if-requires-clause-held c =
    more_fits c.args.chart.now c.loop-nth.nth (act_moves c.args.chart.now c.args.registers.now.registers c.args.on c.args.act.now) c.loop-nth.changes.items c.move_at.result c.loop-nth.invariant.made c.move_at.ensures.small

pub loop-nth-preserved : goal.loop-nth-preserved
loop-nth-preserved c =
    let moves = act_moves c.args.chart.now c.args.registers.now.registers c.args.on c.args.act.now in
    let count = c.moves-nth-end.ensures.value c.args.on in
    let few : length moves ≤ 64 = subst (λ n. n ≤ 64) count (c.moves-nth-end.ensures.few c.args.on c.requires.form) in
    let within : c.loop-nth.nth < length moves = subst (λ n. c.loop-nth.nth < n) count c.loop-nth-test.true in
    record {
      made = made_more c.args.chart.now c.loop-nth.nth moves c.loop-nth.changes.items c.add_if.new.changes.items c.move_at.result within few c.move_at.ensures.value c.move_at.ensures.small c.loop-nth.invariant.made
          c.add_if.ensures.few c.add_if.ensures.apart c.add_if.ensures.inside c.add_if.ensures.adds;
      touched = c.add_if.ensures.lines (λ line. touches c.args.chart.now (stripe_of line) c.args.act.now) (move_touched c.args.chart.now c.args.act.now c.loop-nth.nth moves c.move_at.result c.requires.touched c.move_at.ensures.value) c.loop-nth.invariant.touched;
    }

pub returns-clause-small : goal.returns-clause-small
returns-clause-small c = made_small c.args.chart.now c.loop-nth.nth (act_moves c.args.chart.now c.args.registers.now.registers c.args.on c.args.act.now) c.loop-nth.changes.items c.loop-nth.invariant.made
