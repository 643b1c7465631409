use Rattle.std.proofs.Common.{◌≡◌, ◌++◌, ◌+◌, ◌≤◌, ◌^◌, drop}
use Rattle.cf_books_documents.specs.Documents.{bought}
use Rattle.cf_books_documents.proofs.documents.add_bought.Given as goal

-- what was added, and what is still to come
abbrev pub invariant-loop-item : goal.invariant-loop-item
invariant-loop-item l = record {
  documents : l.out.items ++ bought l.office.chart.now l.office.registers.now.registers l.year l.vendor l.number (drop l.item-index l.items)
      ≡ l.initial.out.items ++ bought l.office.chart.now l.office.registers.now.registers l.year l.vendor l.fn.first l.items;
  small : l.number ≤ 2 ^ 32 + l.item-index;
}
