use Rattle.std.proofs.Common.{◌∙◌, ap}
use Rattle.cf_ledger.specs.Posts.{total}
use Rattle.cf_model.specs.Common.{recon_between, recon_shown}
use Rattle.cf_office_history.specs.RestState.{RestState}
use Rattle.cf_office_history.proofs.ReconSound.{sound_assets}
use Rattle.cf_office_history.proofs.rest.Rest.recon.Goals as goal

pub recon-requires-clause-sound : goal.recon-requires-clause-sound
recon-requires-clause-sound c = sound_assets c.self.inside.chart c.self.inside.entries.items c.self.inside.registers.registers c.whole.ensures c.self.invariant.legal c.self.invariant.registers

pub returns : goal.returns
returns c =
    let plan = c.self.inside.chart in
    c.recon.ensures
    ∙ (λ i. recon_between plan c.args.year (c.self.invariant.registers i) (total (c.self.invariant.fund i) c.args.year) (total (c.self.invariant.gov i) c.args.year))
    ∙ ap (λ (s : RestState). recon_shown s.plan c.args.year s.entries) c.self.view_is
