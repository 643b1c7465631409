use Rattle.std.proofs.Common.{refl}
use Rattle.cf_run_status.specs.Devices.{device}
use Rattle.cf_run_follow.proofs.Shipping.{chart_short, opened_by, ship_ends, ship_refused, ships_by}
use Rattle.cf_run_follow.proofs.ship_command.run_ship.Goals as goal

pub ship-how-requires-clause-chart : goal.ship-how-requires-clause-chart
ship-how-requires-clause-chart g c = rw c.as_slice.ensures.value (chart_short c.in-Ok.chart.items c.in-Ok.book.plan c.in-Ok.ensures.stated)

pub returns-in-Ok-clause-ends : goal.returns-in-Ok-clause-ends
returns-in-Ok-clause-ends g c =
    let d = device g.D.Disk.tells g.D.Disk.content g.D.Disk.is_image g.D.Disk.moment g.D.Disk.was_image g.D.Disk.faults in
    let ships =
    ships_by d c.args.from c.args.disk (g.O.Sink.held c.args.out.now) (g.O.Sink.held c.ship-how.new.out) c.as_slice.result.now c.in-Ok.chart.items c.entries.result.now c.in-Ok.book.entries c.from.result c.args.from c.ship-how.result
    c.as_slice.ensures.value c.entries.ensures.value c.from.ensures c.ship-how.ensures.ships in
    rw c.status_of.ensures
    (ship_ends d c.args.from c.args.disk (g.O.Sink.held c.args.out.now) (g.O.Sink.held c.ship-how.new.out) c.in-Ok.chart.items c.in-Ok.book c.close.result c.ship-how.result
    (opened_by d c.args.disk c.in-Ok.chart.items c.in-Ok.book c.in-Ok.ensures.ok c.in-Ok.ensures.stated c.in-Ok.ensures.bytes) c.close.ensures.disk c.close.ensures.sound c.close.ensures.closed c.close.ensures.articulates ships)

pub returns-in-Err-clause-ends : goal.returns-in-Err-clause-ends
returns-in-Err-clause-ends g c =
    rw c.refusal_status.ensures
    (ship_refused (device g.D.Disk.tells g.D.Disk.content g.D.Disk.is_image g.D.Disk.moment g.D.Disk.was_image g.D.Disk.faults) c.args.from c.args.disk
    (g.O.Sink.held c.args.out.now) (g.O.Sink.held c.args.out.now) c.in-Err.field-0.disk c.in-Err.field-0.why c.in-Err.ensures.err refl)
