use Rattle.cf_journal_stream.proofs.Parts.{head_cut, head_text}
use Rattle.cf_journal_stream.proofs.reading.read_head.Goals as goal

pub returns-in-Ok-None-clause-err : goal.returns-in-Ok-None-clause-err
returns-in-Ok-None-clause-err g c = head_cut (g.S.Source.left c.args.source.now) (g.S.Source.left c.take_long.new.source) (rw c.in-Ok-None.field-0-is at c.in-Ok-None.ensures.ok)

pub returns-in-Err-take_text-clause-err : goal.returns-in-Err-take_text-clause-err
returns-in-Err-take_text-clause-err g c =
    let long = rw c.in-Ok-Some.field-0-is at c.in-Ok-Some.ensures.ok in
    head_text c.in-Ok-Some.from (g.S.Source.left c.args.source.now) (g.S.Source.left c.take_long.new.source) (g.S.Source.left c.take_text.new.source) c.in-Err-take_text.unread long.0 long.1 c.in-Err-take_text.ensures.err
