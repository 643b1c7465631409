use Rattle.std.proofs.Common.{◌≡◌, ◌++◌, drop, take, flat_map, All}
use Rattle.cf_books.specs.Calls.{ReadsBack, call_line}
use Rattle.cf_books.proofs.calls.put_calls.Given as goal

abbrev pub invariant-loop-entry : goal.invariant-loop-entry
invariant-loop-entry l = record {
  text : l.out.items ++ flat_map call_line (drop l.entry-index l.entries) ≡ l.initial.out.items ++ flat_map call_line l.entries;
  back : All ReadsBack (take l.entry-index l.entries);
}
