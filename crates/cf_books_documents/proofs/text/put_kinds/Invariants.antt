use Rattle.std.proofs.Common.{◌≡◌, drop, option_map}
use Rattle.cf_books_documents.specs.KnownIn.{known_in}
use Rattle.cf_books_lists.specs.Rows.{added}
use Rattle.cf_books_documents.specs.Text.{kinds_text}
use Rattle.cf_books_documents.proofs.text.put_kinds.Given as goal

-- what was written, and what is still to come
abbrev pub invariant-loop-kind : goal.invariant-loop-kind
invariant-loop-kind l =
    added l.out (kinds_text l.out.csv l.query.filter (option_map (λ t. t.now) l.query.key) l.office.chart.now l.office.registers.now.registers (known_in l.query.told.now) l.query.entries.now l.entries (drop l.kind-index l.kind-items))
    ≡ added l.initial.out (kinds_text l.initial.out.csv l.query.filter (option_map (λ t. t.now) l.query.key) l.office.chart.now l.office.registers.now.registers (known_in l.query.told.now) l.query.entries.now l.entries l.kind-items)
