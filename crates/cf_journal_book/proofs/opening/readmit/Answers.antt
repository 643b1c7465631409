use Rattle.std.proofs.Common.{sym, ◌∙◌}
use Rattle.cf_model.proofs.Common.{accepted_fits}
use Rattle.cf_journal_book.proofs.Recovering.{taken_adds}
use Rattle.cf_journal_book.proofs.opening.readmit.Goals as goal

pub add_watched-requires : goal.add_watched-requires
add_watched-requires g c = taken_adds c.args.office.now.plan c.args.office.now.entries c.args.entry c.requires.has.form (sym c.office_refusal.ensures ∙ c.in_default.is)

pub returns-in-Ok-clause-few : goal.returns-in-Ok-clause-few
returns-in-Ok-clause-few g c =
    accepted_fits c.args.office.now.plan c.args.office.now.entries c.args.entry
    (taken_adds c.args.office.now.plan c.args.office.now.entries c.args.entry c.requires.has.form (sym c.office_refusal.ensures ∙ c.in_default.is))
