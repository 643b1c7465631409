use Rattle.std.proofs.Common.{sym, ap, ◌∙◌, option_to_list}
use Rattle.cf_assets.specs.Rows.{view_asset}
use Rattle.cf_assets.proofs.Finding.{or_none}
use Rattle.cf_model.specs.Common.{disposed_asset, first_refusal}
use Rattle.cf_assets.proofs.assets.Assets.disposal_refusal.Goals as goal

pub returns-in-Some : goal.returns-in-Some
returns-in-Some c =
    rw (← c.self.view_is) (c.disposed_asset.ensures
    ∙ sym (ap (first_refusal (disposed_asset c.args.on)) (c.in-Some.ensures.alone ∙ ap option_to_list (sym c.in-Some.ensures.value)) ∙ or_none (disposed_asset c.args.on (view_asset c.in-Some.row))))
