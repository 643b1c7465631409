use Rattle.std.proofs.Common.{◌≡◌, ◌++◌, map, drop}
use Rattle.cf_books.specs.Summary.{counts_text, named}
use Rattle.cf_books.proofs.summary.put_counts.Given as goal

abbrev pub invariant-loop-fact : goal.invariant-loop-fact
invariant-loop-fact l = l.out.items ++ counts_text (map named (drop l.fact-index l.facts)) ≡ l.initial.out.items ++ counts_text (map named l.facts)
