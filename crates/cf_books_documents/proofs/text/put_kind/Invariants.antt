use Rattle.std.proofs.Common.{◌≡◌, ◌+◌, drop, option_map}
use Rattle.cf_books_documents.specs.KnownIn.{known_in}
use Rattle.cf_books_lists.specs.Rows.{added}
use Rattle.cf_books_documents.specs.Text.{kind_text}
use Rattle.cf_books_documents.proofs.text.put_kind.Given as goal

-- what was written, and what is still to come
abbrev pub invariant-loop-entry : goal.invariant-loop-entry
invariant-loop-entry l = record {
  place : l.place ≡ l.entry-index;
  text : added l.out (kind_text l.out.csv l.query.filter (option_map (λ t. t.now) l.query.key) l.office.chart.now l.office.registers.now.registers (known_in l.query.told.now) l.query.entries.now l.kind (l.place + 1) (drop l.entry-index l.entries))
      ≡ added l.initial.out (kind_text l.initial.out.csv l.query.filter (option_map (λ t. t.now) l.query.key) l.office.chart.now l.office.registers.now.registers (known_in l.query.told.now) l.query.entries.now l.kind 1 l.entries);
}
