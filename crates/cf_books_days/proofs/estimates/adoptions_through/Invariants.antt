use Rattle.std.proofs.Common.{◌≡◌, ◌++◌, drop, map}
use Rattle.cf_books_days.specs.Adoptions.{adoptions_through}
use Rattle.cf_books_days.proofs.estimates.adoptions_through.Given as goal

-- what was taken, and what is still to come
abbrev pub invariant-loop-entry : goal.invariant-loop-entry
invariant-loop-entry l = map (λ e. e.now) l.adoptions.items ++ adoptions_through l.day (drop l.entry-index l.entries) ≡ adoptions_through l.day l.entries
