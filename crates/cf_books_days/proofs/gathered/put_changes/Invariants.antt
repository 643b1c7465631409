use Rattle.std.proofs.Common.{◌≡◌, ◌++◌, drop}
use Rattle.cf_books_days.specs.Gathered.{changes_on}
use Rattle.cf_books_days.proofs.gathered.put_changes.Given as goal

-- what was appended, and what is still to come
abbrev pub invariant-loop-change : goal.invariant-loop-change
invariant-loop-change l = l.out.items ++ changes_on l.on (drop l.change-index l.changes) ≡ l.initial.out.items ++ changes_on l.on l.changes
