use Rattle.std.proofs.Common.{◌≡◌, sym, subst, ◌∙◌}
use Rattle.cf_budget.specs.Tables.{has_line}
use Rattle.cf_model.specs.Common.{Entry}
use Rattle.cf_journal_book.specs.Archives.{IsOwed}
use Rattle.cf_hall_names.specs.Lists.{entries_of}
use Rattle.cf_registers.specs.Lines.{LendsTouched}
use Rattle.cf_turns.specs.States.{PassState}
use Rattle.cf_hall.specs.Recordings.{HasNoted}
use Rattle.cf_hall.proofs.Lasting.{last_of}
use Rattle.cf_hall.proofs.book.add_last.Goals as goal

pub record-requires-clause-owed : goal.record-requires-clause-owed
record-requires-clause-owed g c =
    let stands = c.entries-entries.ensures.value ∙ c.rest-rest.ensures.entries ∙ c.requires.added.last in
    let is : c.index-entries-entries.result ≡ c.requires.added.entry = c.index-entries-entries.is ∙ last_of _ _ _ _ stands in
    subst (λ (e : Entry). IsOwed g.N.City.plan (entries_of c.args.recording.now.list) e c.args.taken.now.lines c.args.owed) (sym is) c.requires.added.owed

pub record-requires-clause-lent : goal.record-requires-clause-lent
record-requires-clause-lent g c =
    let stands = c.entries-entries.ensures.value ∙ c.rest-rest.ensures.entries ∙ c.requires.added.last in
    let is : c.index-entries-entries.result ≡ c.requires.added.entry = c.index-entries-entries.is ∙ last_of _ _ _ _ stands in
    subst (λ (e : Entry). LendsTouched g.N.City.plan (has_line c.args.taken.now.lines) e.change.act) (sym is) c.requires.added.lent

pub returns-clause-pass : goal.returns-clause-pass
returns-clause-pass g c = subst (λ (p : PassState). HasNoted p c.record.new.self.list c.record.new.pass) c.pass.view_is c.record.ensures.pass
