use Rattle.std.proofs.Common.{◌∙◌, ◌-◌, ◌-ℤ◌, ap}
use Rattle.cf_ledger.specs.Posts.{total}
use Rattle.cf_recon.specs.ChangeItems.{changes_between, changes_shown}
use Rattle.cf_office_history.specs.RestState.{RestState}
use Rattle.cf_office_history.proofs.rest.Rest.changes.Goals as goal

pub returns : goal.returns
returns c =
    let plan = c.self.inside.chart in
    let year = c.args.year in
    c.changes.ensures
    ∙ (λ i. changes_between plan year (c.self.invariant.registers i) (total (c.self.invariant.fund i) year -ℤ total (c.self.invariant.fund i) (year - 1))
    (total (c.self.invariant.gov i) year -ℤ total (c.self.invariant.gov i) (year - 1)))
    ∙ ap (λ (s : RestState). changes_shown s.plan year s.entries) c.self.view_is
