-- The assets of a legal history are as the reconciliation reads them.
use Rattle.std.proofs.Common.{◌≡◌, List, sym, subst}
use Rattle.cf_base.proofs.Common.{AllByRecursion}
use Rattle.cf_model.specs.Common.{Entry, Registers, registers_of, IsLegal}
use Rattle.cf_chart.specs.Common.{Plan}
use Rattle.cf_model.proofs.Common.{IsSoundAsset, IsWhole, is_lawful}

pub sound_assets : (plan : Plan) (history : List Entry) (s : Registers) → IsWhole plan → IsLegal plan history → s ≡ registers_of plan history → AllByRecursion (IsSoundAsset plan s.closed) s.assets
sound_assets plan history s whole legal is =
    subst (λ (r : Registers). AllByRecursion (IsSoundAsset plan r.closed) r.assets) (sym is) (is_lawful plan history whole legal).reconciled.sound.assets
