use Rattle.std.proofs.Common.{◌≡◌, drop}
use Rattle.cf_model.specs.Common.{registers_of}
use Rattle.cf_books_lists.specs.Open.{section_text}
use Rattle.cf_books_lists.specs.Rows.{added}
use Rattle.cf_books_lists.proofs.open.put_section.Given as goal

-- what was written, and what is still to come
abbrev pub invariant-loop-entry : goal.invariant-loop-entry
invariant-loop-entry l =
    added l.out (section_text l.out.csv l.rest.plan (registers_of l.rest.plan l.rest.entries) l.section (drop l.entry-index l.entries)) ≡ added l.initial.out (section_text l.initial.out.csv l.rest.plan (registers_of l.rest.plan l.rest.entries) l.section l.entries)
