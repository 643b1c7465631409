use Rattle.cf_register_parts.specs.declared.pairs.NumberPair.{NumberPair}
use Rattle.cf_register_parts.proofs.PairFacts.{put_reads, puts_amount}
use Rattle.cf_books_documents.proofs.lent.put_loan.Goals as goal

pub returns : goal.returns
returns c =
    let pair : NumberPair = record { first = c.args.from; second = c.args.to } in
    puts_amount _ _ c.args.from c.args.to c.args.place (put_reads _ _ pair c.args.place c.in_ok-insert.ensures.updates.0)
