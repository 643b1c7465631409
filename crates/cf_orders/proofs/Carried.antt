-- What is carried onto a line, one row after another.
use Rattle.std.proofs.Common.{◌≡◌, ℕ, ◌+◌, ◌<◌, Bool, if◌then◌else◌, ◌&&◌, List, [], ◌∷◌, ◌++◌, length, take, get_or, sym, ap, ◌∙◌}
use Rattle.cf_base.proofs.Common.{map-append, take_more, sum_by_push}
use Rattle.cf_chart.specs.Common.{Plan}
use Rattle.cf_model.specs.Common.{is_on, carried_to, goes_on, OrderItem, open_of}
use Rattle.cf_register_parts.specs.declared.extents.Extent.{Extent}
use Rattle.cf_orders.specs.declared.rows.ItemRow.{ItemRow}
use Rattle.cf_orders.specs.declared.rows.ExpenditureRow.{ExpenditureRow}
use Rattle.cf_orders.specs.Carrying.{adds_to}
use Rattle.cf_orders.specs.Rows.{view_item, view_items, AreRows, IsRow}
use Rattle.cf_orders.specs.RowRolls.{goes_on_row}
use Rattle.cf_orders.proofs.Charging.{open_is}
use Rattle.cf_orders.proofs.Rolled.{goes_on_seen, row_at}

module _ (plan : Plan) (line year : ℕ) (orders : List Extent) (uses : List ExpenditureRow) where
  abbrev part : OrderItem → ℕ
  part i = if goes_on plan line year i then open_of i else 0

  goes_seen : (k : ℕ) (r : ItemRow) → IsRow orders uses k r → part (view_item uses r) ≡ adds_to plan line year r
  goes_seen k r row =
      ap (λ (b : Bool). if b && is_on plan line (r.year + 1) r.account then open_of (view_item uses r) else 0) (goes_on_seen plan year orders uses k r row)
      ∙ ap (λ (n : ℕ). if goes_on_row plan year r && is_on plan line (r.year + 1) r.account then n else 0) (open_is orders uses k r row)

  -- with one row more
  pub carried_more : (items : List ItemRow) (k : ℕ) (r : ItemRow) → AreRows orders uses items → k < length items → r ≡ get_or items k r →
      carried_to plan line year (view_items uses (take (k + 1) items)) ≡ carried_to plan line year (view_items uses (take k items)) + adds_to plan line year r
  carried_more items k r rows l at =
      ap (λ (rs : List ItemRow). carried_to plan line year (view_items uses rs)) (take_more items k r l ∙ ap (λ (q : ItemRow). take k items ++ q ∷ []) (sym at))
      ∙ ap (carried_to plan line year) (map-append (view_item uses) (take k items) (r ∷ []))
      ∙ sum_by_push part (view_items uses (take k items)) (view_item uses r)
      ∙ ap (λ (n : ℕ). carried_to plan line year (view_items uses (take k items)) + n) (goes_seen k r (row_at orders uses items k r rows l at))
