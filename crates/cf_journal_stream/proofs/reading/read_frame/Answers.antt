use Rattle.std.proofs.Common.{rules}
use Rattle.cf_journal_stream.proofs.Parts.{frame_none, frame_bad, frame_text}
use Rattle.cf_journal_stream.proofs.reading.read_frame.Goals as goal

pub returns-in-Ok-None-clause-err : goal.returns-in-Ok-None-clause-err
returns-in-Ok-None-clause-err g c = frame_none (g.S.Source.left c.args.source.now) (g.S.Source.left c.take_byte.new.source) (rw c.in-Ok-None.field-0-is at c.in-Ok-None.ensures.ok)

pub returns-in-Err-take_text-clause-err : goal.returns-in-Err-take_text-clause-err
returns-in-Err-take_text-clause-err g c =
    let byte = rw c.in-Ok-Some.field-0-is at c.in-Ok-Some.ensures.ok in
    frame_text c.in-Ok-Some.byte (g.S.Source.left c.args.source.now) (g.S.Source.left c.take_byte.new.source) (g.S.Source.left c.take_text.new.source) c.in-Err-take_text.unread (search rules) byte c.in-Err-take_text.ensures.err

pub returns-then-byte-ne1-clause-err : goal.returns-then-byte-ne1-clause-err
returns-then-byte-ne1-clause-err g c =
    let byte = rw c.in-Ok-Some.field-0-is at c.in-Ok-Some.ensures.ok in
    frame_bad c.in-Ok-Some.byte (g.S.Source.left c.args.source.now) (g.S.Source.left c.take_byte.new.source) byte c.if-byte-eq0.false c.if-byte-ne1.true
