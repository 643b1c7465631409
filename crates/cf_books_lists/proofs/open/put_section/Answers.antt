use Rattle.cf_model.specs.Common.{Entry, registers_of}
use Rattle.cf_books_lists.specs.Open.{look_of, looked_text}
use Rattle.cf_books_lists.proofs.Next.{next_rows}
use Rattle.cf_books_lists.proofs.open.put_section.Goals as goal

pub loop-entry-preserved : goal.loop-entry-preserved
loop-entry-preserved c =
    let plan = c.args.rest.now.plan in
    let registers = registers_of plan c.args.rest.now.entries in
    next_rows (λ csv (e : Entry). looked_text csv plan registers e (look_of c.args.section e)) c.args.entries.now c.loop-entry.entry-index c.entry-item.result c.loop-entry.out c.put_entry.new.out _
    c.loop-entry-test.true c.entry-item.is c.in_ok-put_entry.ensures c.loop-entry.invariant
