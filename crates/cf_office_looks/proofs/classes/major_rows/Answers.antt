use Rattle.std.proofs.Common.{◌≡◌, IfOk, subst}
use Rattle.cf_classes.specs.Statements as spec
use Rattle.cf_office_looks.proofs.classes.major_rows.Goals as goal

pub returns : goal.returns
returns c =
    subst (λ h. IfOk c.major_funds.result (λ rows. rows.items ≡ spec.major_rows h.plan h.entries c.args.year)) c.of.ensures c.major_funds.ensures.rows
