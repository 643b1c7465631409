use Rattle.cf_journal_stream.specs.Readings.{piece_of}
use Rattle.cf_journal_stream.proofs.Parts.{text_behind, text_cut, text_long, text_short}
use Rattle.cf_journal_stream.proofs.reading.take_text.Goals as goal

pub returns-in-Ok-None-clause-err : goal.returns-in-Ok-None-clause-err
returns-in-Ok-None-clause-err g c = text_cut c.args.at c.args.most (g.S.Source.left c.args.source.now) (g.S.Source.left c.take_word.new.source) (rw c.in-Ok-None.field-0-is at c.in-Ok-None.ensures.ok)

pub returns-then-len-most-clause-err : goal.returns-then-len-most-clause-err
returns-then-len-most-clause-err g c =
    let word = rw c.in-Ok-Some.field-0-is at c.in-Ok-Some.ensures.ok in
    text_long c.args.at c.args.most c.in-Ok-Some.len (g.S.Source.left c.args.source.now) (g.S.Source.left c.take_word.new.source) word.0 word.1 c.if-len-most.true

pub returns-in-Err-take-clause-err : goal.returns-in-Err-take-clause-err
returns-in-Err-take-clause-err g c =
    let word = rw c.in-Ok-Some.field-0-is at c.in-Ok-Some.ensures.ok in
    text_behind c.args.at c.args.most c.in-Ok-Some.len (g.S.Source.left c.args.source.now) (g.S.Source.left c.take_word.new.source) (g.S.Source.left c.take.new.source) c.in-Err-take.unread
    c.if-len-most.false word.1 c.in-Err-take.ensures.err

pub returns-then-piece-len-clause-err : goal.returns-then-piece-len-clause-err
returns-then-piece-len-clause-err g c =
    let word = rw c.in-Ok-Some.field-0-is at c.in-Ok-Some.ensures.ok in
    text_short c.args.at c.args.most c.in-Ok-Some.len (g.S.Source.left c.args.source.now) (g.S.Source.left c.take_word.new.source) (g.S.Source.left c.take.new.source) (piece_of c.take.new.self)
    word.1 c.in-Ok.ensures.ok c.if-len-most.false (rw c.piece.ensures at c.if-piece-len.true)
