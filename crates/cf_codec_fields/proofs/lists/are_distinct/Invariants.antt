use Rattle.std.proofs.Common.{◌≡◌, map, take}
use Rattle.cf_codec_fields.proofs.lists.are_distinct.Given as goal

abbrev pub invariant-loop-item : goal.invariant-loop-item
invariant-loop-item g l = l.keys.items ≡ map g.E.DistinctElement.key (take l.item-index l.items)
