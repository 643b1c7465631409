use Rattle.std.proofs.Common.{◌≡◌, ◌<◌, ◌||◌, ℕ, take}
use Rattle.cf_base.proofs.Common.{list_any}
use Rattle.cf_model.specs.Common.{is_item_in}
use Rattle.cf_office.specs.Marks.{mark_at}
use Rattle.cf_office.proofs.stripes.mark_items.Given as goal

-- the items so far are marked
abbrev pub invariant-loop-item : goal.invariant-loop-item
invariant-loop-item l = (k : ℕ) → k < 8 → mark_at l.marks k ≡ (mark_at l.initial.marks k || list_any (is_item_in l.chart k) (take l.item-index l.items))
