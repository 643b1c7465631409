use Rattle.std.proofs.Common.{map, ap, ◌∙◌}
use Rattle.cf_journal_book.specs.declared.refused.BookRefused.TheVariants as refused
use Rattle.cf_run_status.specs.Devices.{device}
use Rattle.cf_top.specs.DoorKinds.{door_kind}
use Rattle.cf_top.proofs.KeptDoors.{disk_unopened, doors_kept, unopened}
use Rattle.cf_top.proofs.serve_command.keep_doors.Goals as goal

pub returns-in-Ok-clause-keeps : goal.returns-in-Ok-clause-keeps
returns-in-Ok-clause-keeps g c =
    doors_kept (device g.D.Disk.tells g.D.Disk.content g.D.Disk.is_image g.D.Disk.moment g.D.Disk.was_image g.D.Disk.faults)
    (door_kind g.R.Link.Link.tells g.R.Door.known g.R.Door.tells)
    c.args.links c.args.disk c.serve_hall.result.disk c.in-Ok.book c.in-Ok.ensures.stated.0 c.args.doors.now.items c.serve_hall.new.doors.items
    c.serve_hall.result.end c.in-Ok.ensures.ok c.in-Ok.ensures.stated.1 c.serve_hall.ensures.ends c.serve_hall.ensures.untouched

pub returns-in-Ok-clause-disk : goal.returns-in-Ok-clause-disk
returns-in-Ok-clause-disk g c = λ e.
    absurd (disk_unopened (device g.D.Disk.tells g.D.Disk.content g.D.Disk.is_image g.D.Disk.moment g.D.Disk.was_image g.D.Disk.faults)
    (door_kind g.R.Link.Link.tells g.R.Door.known g.R.Door.tells)
    c.args.links c.args.disk c.serve_hall.result.disk c.in-Ok.book (map g.R.Door.tells c.args.doors.now.items) (map g.R.Door.tells c.serve_hall.new.doors.items)
    c.serve_hall.result.end c.serve_hall.ensures.ends e)

pub returns-in-Ok-clause-memory : goal.returns-in-Ok-clause-memory
returns-in-Ok-clause-memory g c = λ e.
    ap g.D.Disk.faults (unopened (device g.D.Disk.tells g.D.Disk.content g.D.Disk.is_image g.D.Disk.moment g.D.Disk.was_image g.D.Disk.faults)
    (door_kind g.R.Link.Link.tells g.R.Door.known g.R.Door.tells)
    c.args.links c.args.disk c.serve_hall.result.disk c.in-Ok.book (map g.R.Door.tells c.args.doors.now.items) (map g.R.Door.tells c.serve_hall.new.doors.items)
    c.serve_hall.result.end refused.NoMemory c.serve_hall.ensures.ends e).1 ∙ c.in-Ok.ensures.ok.quiet
