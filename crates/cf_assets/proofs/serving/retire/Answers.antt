use Rattle.std.proofs.Common.{rules}
use Rattle.cf_base.proofs.Common.{filter_same}
use Rattle.cf_assets.proofs.serving.retire.Goals as goal

pub returns : goal.returns
returns c = filter_same _ _ _ (λ x b f' k. search rules) _ _ c.retain.ensures.filtered
