use Rattle.std.proofs.Common.{sym}
use Rattle.cf_books_ledger.proofs.Listing.{parties_more}
use Rattle.cf_books_ledger.proofs.parties.all_parties.Goals as goal

pub loop-entry-preserved : goal.loop-entry-preserved
loop-entry-preserved c =
    parties_more c.args.entries.now c.loop-entry.entry-index c.entry-item.result c.loop-entry.parties c.put_party.new.parties c.loop-entry-test.true (sym c.entry-item.is) c.in_ok-put_party.ensures c.loop-entry.invariant
