use Rattle.cf_journal_stream.proofs.Parts.{long_read}
use Rattle.cf_journal_stream.proofs.reading.take_long.Goals as goal

pub returns-clause-ok : goal.returns-clause-ok
returns-clause-ok g c =
    long_read (g.S.Source.left c.args.source.now) (g.S.Source.left c.take.new.source) c.piece.result.now c.long_in.result (rw c.piece.ensures c.in-Ok.ensures.ok) c.long_in.ensures.value c.long_in.ensures.small
