use Rattle.std.proofs.Common.{◌≡◌, ◌∙◌, ℕ, List, refl, sym, subst}
use Rattle.cf_base.proofs.Common.{Consumes-nil}
use Rattle.cf_base.specs.Common.{Rose}
use Rattle.cf_run_status.specs.Devices.{device}
use Rattle.cf_run_status.specs.declared.status.Status.TheVariants as status
use Rattle.cf_run_follow.specs.Follows.{Copied}
use Rattle.cf_run_follow.proofs.Following.{disk_said, follow_ends, follow_refused, read_quiet, read_rose, read_said, said_disk, said_read}
use Rattle.cf_run_follow.proofs.Shipping.{opened_by}
use Rattle.cf_run_follow.proofs.follow_command.run_follow.Goals as goal

pub returns-in-Ok-clause-ends : goal.returns-in-Ok-clause-ends
returns-in-Ok-clause-ends g c =
    let d = device g.D.Disk.tells g.D.Disk.content g.D.Disk.is_image g.D.Disk.moment g.D.Disk.was_image g.D.Disk.faults in
    let copied = c.keep_copy-how.ensures.copied in
    follow_ends d c.args.disk c.keep_copy-how.result.2 (g.I.Source.left c.args.input.now) (g.I.Source.left c.keep_copy-how.new.input) (g.O.Sink.held c.args.out.now) (g.O.Sink.held c.print_end.new.out)
    c.keep_copy-how.result.1 c.keep_copy-how.result.0 c.print_end.result
    (record {
      chart = c.in-Ok.chart.items;
      start = c.in-Ok.book;
      last = copied.0;
      opened = opened_by d c.args.disk c.in-Ok.chart.items c.in-Ok.book c.in-Ok.ensures.ok c.in-Ok.ensures.stated c.in-Ok.ensures.bytes;
      copied = subst (λ (chart : List ℕ). Copied d chart c.in-Ok.book copied.0 c.keep_copy-how.result.2 (g.I.Source.left c.args.input.now) (g.I.Source.left c.keep_copy-how.new.input) c.keep_copy-how.result.0) c.as_slice.ensures.value copied.1;
      quiet = λ fine. c.keep_copy-how.ensures.quiet fine ∙ c.in-Ok.ensures.ok.quiet;
    })
    copied.2 c.print_end.ensures.done c.print_end.ensures.stopped

pub returns-in-Ok-clause-read : goal.returns-in-Ok-clause-read
returns-in-Ok-clause-read g c = λ is.
    read_rose c.keep_copy-how.result.0 (g.I.Source.faults c.args.input.now) (g.I.Source.faults c.keep_copy-how.new.input)
    (said_read _ _ _ c.keep_copy-how.result.0 c.print_end.result c.print_end.ensures.done c.print_end.ensures.stopped is) c.keep_copy-how.ensures.cause

pub returns-in-Ok-clause-disk : goal.returns-in-Ok-clause-disk
returns-in-Ok-clause-disk g c = λ is.
    subst (λ (n : ℕ). Rose n (g.D.Disk.faults c.keep_copy-how.result.2)) c.in-Ok.ensures.ok.quiet
    (c.keep_copy-how.ensures.disk (said_disk _ _ _ c.keep_copy-how.result.0 c.print_end.result c.print_end.ensures.done c.print_end.ensures.stopped is))

pub returns-in-Ok-clause-input_quiet : goal.returns-in-Ok-clause-input_quiet
returns-in-Ok-clause-input_quiet g c = λ fine.
    read_quiet c.keep_copy-how.result.0 (g.I.Source.faults c.args.input.now) (g.I.Source.faults c.keep_copy-how.new.input)
    (λ is. fine (read_said _ _ _ c.keep_copy-how.result.0 c.print_end.result c.print_end.ensures.done c.print_end.ensures.stopped is)) c.keep_copy-how.ensures.cause

pub returns-in-Ok-clause-memory : goal.returns-in-Ok-clause-memory
returns-in-Ok-clause-memory g c = λ is. (
  read_quiet c.keep_copy-how.result.0 (g.I.Source.faults c.args.input.now) (g.I.Source.faults c.keep_copy-how.new.input)
      (λ e. (let same : status.NoMemory ≡ status.ReadFault = sym is ∙ read_said _ _ _ c.keep_copy-how.result.0 c.print_end.result c.print_end.ensures.done c.print_end.ensures.stopped e in cc)) c.keep_copy-how.ensures.cause,
  c.print_end.ensures.out_quiet (λ e. (let same : status.NoMemory ≡ status.WriteFault = sym is ∙ e in cc)),
  c.keep_copy-how.ensures.quiet (λ e. (let same : status.NoMemory ≡ status.DiskFault = sym is ∙ disk_said _ _ _ c.keep_copy-how.result.0 c.print_end.result c.print_end.ensures.done c.print_end.ensures.stopped e in cc))
      ∙ c.in-Ok.ensures.ok.quiet,
)

pub returns-in-Err-clause-ends : goal.returns-in-Err-clause-ends
returns-in-Err-clause-ends g c =
    rw c.refusal_status.ensures
    (follow_refused (device g.D.Disk.tells g.D.Disk.content g.D.Disk.is_image g.D.Disk.moment g.D.Disk.was_image g.D.Disk.faults) c.args.disk c.in-Err.field-0.disk
    (g.I.Source.left c.args.input.now) (g.I.Source.left c.args.input.now) (g.O.Sink.held c.args.out.now) (g.O.Sink.held c.args.out.now) c.in-Err.field-0.why c.in-Err.ensures.err (Consumes-nil (g.I.Source.left c.args.input.now)) refl)
