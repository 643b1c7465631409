use Rattle.std.proofs.Common.{◌≡◌, ◌++◌, drop}
use Rattle.cf_books_lists.specs.Statement.{source_lines}
use Rattle.cf_books_lists.proofs.statement.put_sources.Given as goal

-- what was appended, and what is still to come
abbrev pub invariant-loop-source : goal.invariant-loop-source
invariant-loop-source l = l.out.items ++ source_lines l.fund (drop l.source-index l.sources) ≡ l.initial.out.items ++ source_lines l.fund l.sources
