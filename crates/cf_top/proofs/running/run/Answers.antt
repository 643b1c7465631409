use Rattle.std.proofs.Common.{◌≡◌, Some, map, string_bytes, refl, ap, ◌∙◌}
use Rattle.cf_run_status.specs.Devices.{device}
use Rattle.cf_top.specs.DoorKinds.{door_kind}
use Rattle.cf_top.specs.Runs.{outside}
use Rattle.cf_run_words.specs.Words.{command_of}
use Rattle.cf_run_words.specs.declared.words.Command.TheVariants as command
use Rattle.cf_top.proofs.Ending.{ends_unread, serve_reads}
use Rattle.cf_top.proofs.running.run.Goals as goal

pub returns-in-Serve-clause-read : goal.returns-in-Serve-clause-read
returns-in-Serve-clause-read g c = λ is.
    absurd
    (serve_reads (device g.D.Disk.tells g.D.Disk.content g.D.Disk.is_image g.D.Disk.moment g.D.Disk.was_image g.D.Disk.faults)
    (door_kind g.R.Link.Link.tells g.R.Door.known g.R.Door.tells)
    c.in-Serve.count c.in-Serve.links c.args.disk c.run_serve.result.disk c.args.doors.now.items c.run_serve.new.doors.items
    (g.O.Sink.held c.args.out.now) (g.O.Sink.held c.run_serve.new.out) c.run_serve.result.status c.run_serve.ensures.ends is)

pub returns-in-Follow-clause-read : goal.returns-in-Follow-clause-read
returns-in-Follow-clause-read g c = λ is.
    let asked : command_of (map string_bytes c.args.words.now) ≡ Some command.Follow = c.in-Ok.ensures.command ∙ ap Some c.in-Follow.is in
    rw asked (c.run_follow.ensures.read is, refl)

pub returns-in-Err-NoMemory-clause-ends : goal.returns-in-Err-NoMemory-clause-ends
returns-in-Err-NoMemory-clause-ends g c =
    rw (c.unread.ensures.status, c.unread.ensures.disk)
    (ends_unread (device g.D.Disk.tells g.D.Disk.content g.D.Disk.is_image g.D.Disk.moment g.D.Disk.was_image g.D.Disk.faults)
    (door_kind g.R.Link.Link.tells g.R.Door.known g.R.Door.tells)
    (command_of (map string_bytes c.args.words.now)) (outside (g.C.Source.left c.args.chart.now) (g.I.Source.left c.args.input.now) (g.O.Sink.held c.args.out.now) c.args.doors.now.items) c.args.disk c.unread.ensures.at_rest)
