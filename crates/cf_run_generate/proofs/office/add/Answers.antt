use Rattle.std.proofs.Common.{sym, subst}
use Rattle.cf_model.specs.Common.{Adds}
use Rattle.cf_model.proofs.Common.{adds_accepted}
use Rattle.cf_run_generate.proofs.office.add.Goals as goal

pub accept-requires : goal.accept-requires
accept-requires c =
    let plan = c.args.office.now.plan in
    let h = c.args.office.now.entries in
    subst (Adds plan h) (sym c.entry_of-entry.ensures) (adds_accepted plan h c.args.change c.args.drawn c.requires.form c.requires.accepted)
