use Rattle.std.proofs.Common.{length, subst}
use Rattle.cf_assets.specs.Inventory.{Inventory, AreCheap, AreNumbered}
use Rattle.cf_assets.proofs.Keeping.{costs, numbered}
use Rattle.cf_assets.proofs.inventory.Inventory.count.Goals as goal

pub returns-clause-numbered : goal.returns-clause-numbered
returns-clause-numbered c = subst (λ (i : Inventory). AreNumbered i.assets) c.self.view_is (numbered (length c.self.inside.accumulated.items) c.self.inside.rows.items c.self.invariant.rows)

pub returns-clause-cheap : goal.returns-clause-cheap
returns-clause-cheap c = subst (λ (i : Inventory). AreCheap i.assets) c.self.view_is (costs (length c.self.inside.accumulated.items) c.self.inside.rows.items c.self.invariant.rows)
