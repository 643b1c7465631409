use Rattle.std.proofs.Common.{sym, subst}
use Rattle.cf_budget.specs.Tables.{has_line}
use Rattle.cf_model.specs.Common.{Entry, Adds}
use Rattle.cf_calls.specs.Common.{IsEntryInForm}
use Rattle.cf_model.proofs.Common.{adds_accepted}
use Rattle.cf_registers.specs.Lines.{LendsTouched}
use Rattle.cf_journal_book.proofs.InForm.{added_in_form}
use Rattle.cf_journal_book.specs.Settling.{entry_by}
use Rattle.cf_journal_book.proofs.archive.prepare.Goals as goal

pub reserve-requires : goal.reserve-requires
reserve-requires c =
    let plan = c.args.rest.now.plan in
    let h = c.args.rest.now.entries in
    subst IsEntryInForm (sym c.entry_of-entry.ensures) (added_in_form plan h (entry_by c.args.change c.args.drawn) c.entries-legal.ensures.legal (adds_accepted plan h c.args.change c.args.drawn c.requires.form c.requires.accepted))

pub reserve-requires-2-clause-lent : goal.reserve-requires-2-clause-lent
reserve-requires-2-clause-lent c =
    subst (λ (e : Entry). LendsTouched c.args.rest.now.plan (has_line c.args.lines.now) e.change.act) (sym c.entry_of-entry.ensures) c.requires.lent

pub reserve-requires-2-clause-adds : goal.reserve-requires-2-clause-adds
reserve-requires-2-clause-adds c =
    let plan = c.args.rest.now.plan in
    let h = c.args.rest.now.entries in
    subst (Adds plan h) (sym c.entry_of-entry.ensures) (adds_accepted plan h c.args.change c.args.drawn c.requires.form c.requires.accepted)
