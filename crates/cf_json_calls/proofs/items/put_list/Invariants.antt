use Rattle.std.proofs.Common.{◌≡◌, ◌++◌, map, drop, take, All}
use Rattle.serde_json.specs.View.{items_of}
use Rattle.serde_json.specs.Written.{items_text}
use Rattle.cf_json_calls.proofs.items.put_list.Given as goal

abbrev pub invariant-loop-item : goal.invariant-loop-item
invariant-loop-item g l = record {
  text : l.out.items ++ items_text l.later (items_of (map g.T.Item.value (drop l.item-index l.items))) ≡ l.initial.out.items ++ items_text l.initial.later (items_of (map g.T.Item.value l.items));
  fits : All g.T.Item.fits (take l.item-index l.items);
}
