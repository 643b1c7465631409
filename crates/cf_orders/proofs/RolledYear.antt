-- What the roll of a fiscal year in place makes of rows.
use Rattle.std.proofs.Common.{◌≡◌, ℕ, zero, suc, ◌+◌, ◌<◌, ◌≤◌, Bool, true, false, if◌then◌else◌, ◌==◌, ◌&&◌, List, [], ◌∷◌, length, map, get_or, refl, sym, subst, arith, ◌∙◌, ap}
use Rattle.cf_base.proofs.Common.{get_or_default, AllByRecursion}
use Rattle.cf_calls.specs.declared.shown.RequisitionState.TheVariants as requisition
use Rattle.cf_chart.specs.Common.{Plan}
use Rattle.cf_model.specs.Common.{leaves, OrderItem, lapses, rolled, open_of}
use Rattle.cf_model.specs.OrderItems as model
use Rattle.cf_register_parts.specs.declared.extents.Extent.{Extent}
use Rattle.cf_orders.specs.declared.rows.ExpenditureRow.{ExpenditureRow}
use Rattle.cf_orders.specs.declared.rows.HoldRow.{HoldRow}
use Rattle.cf_orders.specs.declared.rows.ItemRow.{ItemRow}
use Rattle.cf_orders.specs.Extents.{AreExtents}
use Rattle.cf_orders.specs.RowRolls.{ended_in, ended_row, lapsed_hold, lapses_row, rolls_row}
use Rattle.cf_orders.specs.Rows.{view_hold, view_holds, view_item, view_items, AreRows, IsRow}
use Rattle.cf_orders.specs.Steps.{IsChangedIn}
use Rattle.cf_orders.proofs.Closing.{lapse_of, roll_of}
use Rattle.cf_orders.proofs.Lists.{map_each}
use Rattle.cf_orders.proofs.Ranges.{changed_extents}
use Rattle.cf_orders.proofs.Rolled.{Keeps, ended_keeps, lapses_seen, rolls_seen, view_carried}
use Rattle.cf_base.specs.Common.{most_cents}

-- rows that were all changed
pub record IsChangedWhole {R : Type 0} (f : R → R) (old new : List R) : Type 0 where
  pub len : length new ≡ length old
  pub rows : (k : ℕ) (d : R) → k < length old → get_or new k d ≡ f (get_or old k d)

pub changed_whole : {R : Type 0} (f : R → R) (old new : List R) → IsChangedIn f (record { first = 0; end = length old }) old new → IsChangedWhole f old new
changed_whole f old new changed = record { len = changed.len; rows = λ k d l. changed.there k d (omega arith) l l }

-- ---- requisitions

lapsed_view : (year : ℕ) (h : HoldRow) → view_hold (lapsed_hold year h) ≡ lapse_of year (view_hold h)
lapsed_view year h = by_test (h.year == year)
  where
    by_test : (b : Bool) → view_hold (if b then record h { state = leaves h.state requisition.Lapsed } else h) ≡ (if b then record (view_hold h) { state = leaves h.state requisition.Lapsed } else view_hold h)
    by_test true = refl
    by_test false = refl

pub holds_lapsed : (year : ℕ) (old new : List HoldRow) → IsChangedWhole (lapsed_hold year) old new → view_holds new ≡ map (lapse_of year) (view_holds old)
holds_lapsed year old new changed =
    map_each view_hold view_hold (lapse_of year) old new changed.len
    (λ k d e l. ap view_hold (get_or_default new k e d (rw changed.len l) ∙ changed.rows k d l) ∙ lapsed_view year (get_or old k d))

lapsed_same : (year : ℕ) (h : HoldRow) → ((lapsed_hold year h).requisition ≡ h.requisition) × ((lapsed_hold year h).account.amount ≡ h.account.amount)
lapsed_same year h = by_test (h.year == year)
  where
    by_test : (b : Bool) → ((if b then record h { state = leaves h.state requisition.Lapsed } else h).requisition ≡ h.requisition) × ((if b then record h { state = leaves h.state requisition.Lapsed } else h).account.amount ≡ h.account.amount)
    by_test true = (refl, refl)
    by_test false = (refl, refl)

pub extents_lapsed : (year : ℕ) (extents : List Extent) (old new : List HoldRow) → IsChangedWhole (lapsed_hold year) old new → AreExtents (λ h. h.requisition) extents old → AreExtents (λ h. h.requisition) extents new
extents_lapsed year extents old new changed are =
    changed_extents (λ h. h.requisition) extents old new changed.len (λ k d l. ap (λ (h : HoldRow). h.requisition) (changed.rows k d l) ∙ (lapsed_same year (get_or old k d)).0) are

pub amounts_lapsed : (year : ℕ) (old new : List HoldRow) → IsChangedWhole (lapsed_hold year) old new → ((k : ℕ) (d : HoldRow) → k < length old → (get_or old k d).account.amount ≤ most_cents) →
    (k : ℕ) (d : HoldRow) → k < length new → (get_or new k d).account.amount ≤ most_cents
amounts_lapsed year old new changed all k d l =
    let m : k < length old = rw (← changed.len) l in
    subst (λ n. n ≤ most_cents) (sym (ap (λ (h : HoldRow). h.account.amount) (changed.rows k d m) ∙ (lapsed_same year (get_or old k d)).1)) (all k d m)

-- ---- orders' items

module _ (plan : Plan) (year : ℕ) (orders : List Extent) (uses : List ExpenditureRow) where
  keeps : (old : List ItemRow) → AreRows orders uses old → (k : ℕ) (d : ItemRow) → k < length old → Keeps orders uses k (get_or old k d) (ended_in plan year (get_or old k d))
  keeps old rows k d l = ended_keeps orders uses k plan year (get_or old k d) (rows k d l)

  pub rows_ended : (old new : List ItemRow) → IsChangedWhole (ended_in plan year) old new → AreRows orders uses old → AreRows orders uses new
  rows_ended old new changed rows k d l =
      let m : k < length old = rw (← changed.len) l in
      subst (IsRow orders uses k) (sym (changed.rows k d m)) (keeps old rows k d m).row

  pub extents_ended : (old new : List ItemRow) → IsChangedWhole (ended_in plan year) old new → AreRows orders uses old → AreExtents (λ i. i.order) orders old → AreExtents (λ i. i.order) orders new
  extents_ended old new changed rows are =
      changed_extents (λ i. i.order) orders old new changed.len (λ k d l. ap (λ (q : ItemRow). q.order) (changed.rows k d l) ∙ (keeps old rows k d l).order) are

  pub bases_ended : (m : ℕ) (old new : List ItemRow) → IsChangedWhole (ended_in plan year) old new → AreRows orders uses old → AllByRecursion (λ i. i.base ≤ m) (view_items uses old) → AllByRecursion (λ i. i.base ≤ m) (view_items uses new)
  bases_ended m old new changed rows all =
      lower old new changed.len (λ k d l. ap (λ (q : ItemRow). (view_item uses q).base) (changed.rows k d l)) (λ k d l. (keeps old rows k d l).base) all
    where
      lower : (xs ys : List ItemRow) → length ys ≡ length xs → ((k : ℕ) (d : ItemRow) → k < length xs → (view_item uses (get_or ys k d)).base ≡ (view_item uses (ended_in plan year (get_or xs k d))).base) →
          ((k : ℕ) (d : ItemRow) → k < length xs → (view_item uses (ended_in plan year (get_or xs k d))).base ≤ (view_item uses (get_or xs k d)).base) →
          AllByRecursion (λ i. i.base ≤ m) (view_items uses xs) → AllByRecursion (λ i. i.base ≤ m) (view_items uses ys)
      lower [] [] len same less all = tt
      lower [] (y ∷ ys) len same less all = absurd (omega (arith, len))
      lower (x ∷ xs) [] len same less all = absurd (omega (arith, len))
      lower (x ∷ xs) (y ∷ ys) len same less all =
          (omega (arith, same zero x (omega arith), less zero x (omega arith), all.0), lower xs ys (omega (arith, len)) (λ k d l. same (suc k) d (omega (arith, l))) (λ k d l. less (suc k) d (omega (arith, l))) all.1)

  view_ended : (k : ℕ) (r : ItemRow) → IsRow orders uses k r → view_item uses (ended_in plan year r) ≡ roll_of plan year (view_item uses r)
  view_ended k r row = by_tests (rolls_row year r) (lapses_row plan r) refl (rolls_seen year orders uses k r row) (lapses_seen plan orders uses k r row)
    where
      i : OrderItem
      i = view_item uses r

      by_tests : (b l : Bool) → rolls_row year r ≡ b → ((i.year == year) && model.is_live i) ≡ rolls_row year r → lapses plan i ≡ l → view_item uses (if b then ended_row l r else r) ≡ roll_of plan year i
      by_tests false l e seen same = sym (ap (λ (c : Bool). if c then rolled plan i else i) (seen ∙ e))
      by_tests true true e seen same =
          sym (ap (λ (c : Bool). if c then rolled plan i else i) (seen ∙ e) ∙ ap (λ (c : Bool). if c then record i { stage = model.lapsed } else record i { year = i.year + 1; base = open_of i; taken = [] }) same)
      by_tests true false e seen same =
          view_carried orders uses k year r row e
          ∙ sym (ap (λ (c : Bool). if c then rolled plan i else i) (seen ∙ e) ∙ ap (λ (c : Bool). if c then record i { stage = model.lapsed } else record i { year = i.year + 1; base = open_of i; taken = [] }) same)

  pub items_ended : (old new : List ItemRow) → IsChangedWhole (ended_in plan year) old new → AreRows orders uses old → view_items uses new ≡ map (roll_of plan year) (view_items uses old)
  items_ended old new changed rows =
      map_each (view_item uses) (view_item uses) (roll_of plan year) old new changed.len
      (λ k d e l. ap (view_item uses) (get_or_default new k e d (rw changed.len l) ∙ changed.rows k d l) ∙ view_ended k (get_or old k d) (rows k d l))
