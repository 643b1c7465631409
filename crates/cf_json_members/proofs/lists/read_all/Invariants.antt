use Rattle.std.proofs.Common.{◌≡◌, ◌++◌, option_map, drop, All}
use Rattle.serde_json.specs.View.{items_view}
use Rattle.cf_json_members.specs.Lists.{each}
use Rattle.cf_json_members.proofs.lists.read_all.Given as goal

abbrev pub invariant-loop-value : goal.invariant-loop-value
invariant-loop-value g l =
    (each g.T.FieldKind.kind (items_view l.values) ≡ option_map (λ r. l.items.items ++ r) (each g.T.FieldKind.kind (items_view (drop l.value-index l.values))))
    × All g.T.FieldKind.fits l.items.items
