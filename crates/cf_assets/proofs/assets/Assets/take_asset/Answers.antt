use Rattle.std.proofs.Common.{◌∙◌, sym, ap}
use Rattle.cf_assets.proofs.Applying.{dispose_allowed, adds_only, gift_step}
use Rattle.cf_calls.specs.declared.acts.Act.TheVariants as act
use Rattle.cf_model.specs.Common.{assets_by}
use Rattle.cf_assets.proofs.assets.Assets.take_asset.Goals as goal

pub dispose-requires-clause-allowed : goal.dispose-requires-clause-allowed
dispose-requires-clause-allowed c = dispose_allowed c.args.self.now c.args.on c.args.what.now c.in-Dispose.disposal c.in-Dispose.is c.requires.allowed

pub returns-in-Donate-clause-assets : goal.returns-in-Donate-clause-assets
returns-in-Donate-clause-assets c =
    let plan = c.args.chart.now in
    let old = c.args.self.now in
    c.accept_gift.ensures.assets
    ∙ adds_only plan old.closed c.args.on (act.Asset c.args.what.now) c.args.drawn old.assets _ (gift_step plan old.closed c.args.on c.args.what.now c.in-Donate.gift old.assets c.in-Donate.is) (sym (ap (λ a. assets_by plan c.args.on (act.Asset a) c.args.drawn) c.in-Donate.is))
