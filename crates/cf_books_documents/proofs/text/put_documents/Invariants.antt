use Rattle.std.proofs.Common.{◌≡◌, drop, option_map}
use Rattle.cf_books_documents.specs.KnownIn.{known_in}
use Rattle.cf_books_lists.specs.Rows.{added}
use Rattle.cf_books_documents.specs.Text.{documents_text}
use Rattle.cf_books_documents.proofs.text.put_documents.Given as goal

-- what was written, and what is still to come
abbrev pub invariant-loop-facts : goal.invariant-loop-facts
invariant-loop-facts l =
    added l.out (documents_text l.out.csv l.query.filter (option_map (λ t. t.now) l.query.key) l.office.chart.now (known_in l.query.told.now) l.query.entries.now l.entry (drop l.facts-index l.documents))
    ≡ added l.initial.out (documents_text l.initial.out.csv l.query.filter (option_map (λ t. t.now) l.query.key) l.office.chart.now (known_in l.query.told.now) l.query.entries.now l.entry l.documents)
