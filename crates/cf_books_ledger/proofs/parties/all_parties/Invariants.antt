use Rattle.std.proofs.Common.{◌≡◌, take}
use Rattle.cf_books_ledger.specs.Parties.{parties_of}
use Rattle.cf_books_ledger.proofs.parties.all_parties.Given as goal

-- the parties of the entries so far
abbrev pub invariant-loop-entry : goal.invariant-loop-entry
invariant-loop-entry l = l.parties ≡ parties_of (take l.entry-index l.entries)
