use Rattle.std.proofs.Common.{◌-◌, arith, vec_len}
use Rattle.cf_journal_stream.proofs.Parts.{piece_behind}
use Rattle.cf_journal_stream.proofs.reader.take_piece.Goals as goal

pub returns-in-Err-clause-err : goal.returns-in-Err-clause-err
returns-in-Err-clause-err g c =
    piece_behind c.args.most (c.args.most - vec_len c.loop-source.bytes) (g.S.Source.left c.args.source.now) (g.S.Source.left c.loop-source.source) (g.S.Source.left c.take_some.new.source) c.loop-source.bytes.items c.in-Err.unread
    (omega (arith, c.loop-source.invariant.within)) c.loop-source.invariant.took c.in-Err.ensures.err
