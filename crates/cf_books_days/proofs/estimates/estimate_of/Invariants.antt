use Rattle.std.proofs.Common.{◌≡◌, ◌+◌, drop, map}
use Rattle.cf_model.specs.Common.{estimate}
use Rattle.cf_books_days.proofs.estimates.estimate_of.Given as goal

-- what was summed, and what is still to come
abbrev pub invariant-loop-entry : goal.invariant-loop-entry
invariant-loop-entry l = l.sum + estimate l.source l.year (map (λ e. e.now) (drop l.entry-index l.entries)) ≡ estimate l.source l.year (map (λ e. e.now) l.entries)
