-- What the assets by number keep of their rows.
use Rattle.std.proofs.Common.{◌≡◌, ◌⊎◌, inl, inr, ℕ, zero, suc, ◌+◌, ◌-◌, ◌<◌, ◌≤◌, min, Bool, true, false, not, if◌then◌else◌, ◌==◌, ◌&&◌, List, [], ◌∷◌, ◌++◌, length, map, set, get_or, sum_by, is_some, refl, sym, subst, ap, ◌∙◌, arith}
use Rattle.cf_base.proofs.Common.{common_steps, length-append, length-map, map-append, map-set, get_or_append_left, get_or_push, get_or-map, sum_by-cons}
use Rattle.cf_assets.specs.declared.rows.AssetRow.{AssetRow}
use Rattle.cf_assets.specs.declared.rows.StageNow.{StageNow}
use Rattle.cf_assets.specs.declared.rows.StageNow.TheVariants.{Held, Void, Disposed}
use Rattle.cf_assets.specs.Inventory.{AreKept, accumulated_at}
use Rattle.cf_assets.specs.InventoryView.{AreAccumulated}
use Rattle.cf_assets.specs.Rows.{view_asset, view_stage, IsRow, IsStage, AreRows, no_row, view_origin}
use Rattle.cf_assets.specs.Years.{bought_in, given_in, let_in, book_in, with_cost}
use Rattle.cf_register_parts.proofs.Lists.{each_push, each_set, less_or_not}
use Rattle.cf_register_parts.specs.Years.{AreYears, cell_of, with_cell}
use Rattle.cf_assets.proofs.Cells.{sum_push, sum_set, sum_small, push_adds, push_same, set_same, set_adds, set_takes, enough_there}
use Rattle.cf_register_parts.proofs.Cells.{years_same}
use Rattle.cf_assets.proofs.Charging.{not_yet, never_falls, total_next, total_first, total_most}
use Rattle.cf_model.specs.Common.{Asset, counted, depreciated, depreciation, charge, voucher_of, is_given, is_leased, is_void, is_disposed_in}
use Rattle.cf_model.specs.Assets.{held}
use Rattle.cf_base.specs.Common.{most_cents}
use Rattle.cf_register_parts.specs.Limits.{most_items, most_total}

-- ---- rows

pub rows_push : (closed : ℕ) (rows : List AssetRow) (r : AssetRow) → AreRows closed rows → IsRow closed (length rows) r → AreRows closed (rows ++ r ∷ [])
rows_push closed rows r all here = each_push (IsRow closed) rows r all here

pub rows_set : (closed : ℕ) (rows : List AssetRow) (k : ℕ) (r : AssetRow) → k < length rows → AreRows closed rows → IsRow closed k r → AreRows closed (set rows k r)
rows_set closed rows k r l all here = each_set (IsRow closed) rows k r l here (λ j d m apart. all j d m)

stage_later : (closed : ℕ) (s : StageNow) → IsStage closed s → IsStage (closed + 1) s
stage_later closed Held ok = tt
stage_later closed Void ok = tt
stage_later closed (Disposed year months) ok = omega (arith, ok)

pub rows_close : (closed : ℕ) (rows : List AssetRow) → AreRows closed rows → AreRows (closed + 1) rows
rows_close closed rows all k d l =
    let was : IsRow closed k (get_or rows k d) = all k d l in
    record { number = was.number; cost = was.cost; from = was.from; to = was.to; stage = stage_later closed (get_or rows k d).stage was.stage }

-- ---- what they stand for

pub numbered : (closed : ℕ) (rows : List AssetRow) → AreRows closed rows → (k : ℕ) (d : Asset) → k < length (map view_asset rows) → (get_or (map view_asset rows) k d).number ≡ k + 1
numbered closed rows all k d l =
    let m : k < length rows = rw (length-map rows view_asset) at l in
    ap (λ (a : Asset). a.number) (get_or-map view_asset rows k no_row d m) ∙ (all k no_row m).number

pub view_push : (rows : List AssetRow) (r : AssetRow) → map view_asset (rows ++ r ∷ []) ≡ map view_asset rows ++ view_asset r ∷ []
view_push rows r = map-append view_asset rows (r ∷ [])

pub view_set : (rows : List AssetRow) (k : ℕ) (r : AssetRow) → map view_asset (set rows k r) ≡ set (map view_asset rows) k (view_asset r)
view_set rows k r = map-set view_asset rows k r

pub view_at : (rows : List AssetRow) (k : ℕ) (d : AssetRow) (e : Asset) → k < length rows → get_or (map view_asset rows) k e ≡ view_asset (get_or rows k d)
view_at rows k d e l = get_or-map view_asset rows k d e l

pub costs : (closed : ℕ) (rows : List AssetRow) → AreRows closed rows → (k : ℕ) (d : Asset) → k < length (map view_asset rows) → (get_or (map view_asset rows) k d).cost ≤ most_cents
costs closed rows all k d l =
    let m : k < length rows = rw (length-map rows view_asset) at l in
    let is : get_or (map view_asset rows) k d ≡ view_asset (get_or rows k no_row) = view_at rows k no_row d m in
    omega (arith, ap (λ (a : Asset). a.cost) is, (all k no_row m).cost)

pub bought_most : (year : ℕ) (a : Asset) → bought_in year a ≤ a.cost
bought_most year a = by_test (is_some (voucher_of a.origin) && (a.year == year) && not (is_void a.stage))
  where
    by_test : (b : Bool) → (if b then a.cost else 0) ≤ a.cost
    by_test true = omega arith
    by_test false = omega arith

pub given_most : (year : ℕ) (a : Asset) → given_in year a ≤ a.cost
given_most year a = by_test (is_given a.origin && (a.year == year))
  where
    by_test : (b : Bool) → (if b then a.cost else 0) ≤ a.cost
    by_test true = omega arith
    by_test false = omega arith

pub let_most : (year : ℕ) (a : Asset) → let_in year a ≤ a.cost
let_most year a = by_test (is_leased a.origin && (a.year == year))
  where
    by_test : (b : Bool) → (if b then a.cost else 0) ≤ a.cost
    by_test true = omega arith
    by_test false = omega arith

pub book_most : (closed year : ℕ) (a : Asset) → book_in closed year a ≤ a.cost
book_most closed year a = by_test (is_disposed_in year a.stage)
  where
    by_test : (b : Bool) → (if b then a.cost - depreciation closed a else 0) ≤ a.cost
    by_test true = omega arith
    by_test false = omega arith

-- what all assets add to a year is small
pub year_most : (f : ℕ → Asset → ℕ) → ((year : ℕ) (a : Asset) → f year a ≤ a.cost) → (closed : ℕ) (rows : List AssetRow) → AreRows closed rows → length rows ≤ most_items → (year : ℕ) → sum_by (f year) (map view_asset rows) ≤ most_total
year_most f most closed rows are few year =
    omega (
      arith,
      few,
      length-map rows view_asset,
      sum_small (f year) (map view_asset rows) (λ k d l. omega (arith, most year (get_or (map view_asset rows) k d), costs closed rows are k d l)),
    )

pub kept : (closed : ℕ) (rows : List AssetRow) → AreRows closed rows → AreKept (map view_asset rows)
kept closed rows are k d l =
    let m : k < length rows = rw (length-map rows view_asset) at l in
    omega (arith, ap (λ (a : Asset). a.year) (view_at rows k no_row d m), (are k no_row m).from)

-- ---- a new asset

pub accumulated_push : (rows : List AssetRow) (r : AssetRow) (accumulated : List ℕ) → r.stage ≡ Held → length accumulated ≤ r.service → AreAccumulated (map view_asset rows) accumulated → AreAccumulated (map view_asset (rows ++ r ∷ [])) accumulated
accumulated_push rows r accumulated is early are n l =
    let none : depreciation (n + 1) (view_asset r) ≡ 0 = not_yet (n + 1) (view_asset r) (omega (arith, early, l, ap (λ s. counted (view_stage s) (n + 1)) is)) in
    rw (view_push rows r) (omega (arith, are n l, sum_push (depreciation (n + 1)) (map view_asset rows) (view_asset r), none))

same_year : (a : ℕ) → (a == a) ≡ true
same_year a = grind (arith, common_steps)

other_year : (a b : ℕ) → (b ≡ a → ⊥) → (a == b) ≡ false
other_year a b n = grind (arith, common_steps)

-- the cost of a new asset in the sums of what was acquired as it was
pub cost_push : (f : ℕ → Asset → ℕ) (counts : Bool) (rows : List AssetRow) (r : AssetRow) (cells : List ℕ) → ((y : ℕ) → f y (view_asset r) ≡ (if counts && (r.year == y) then r.cost else 0)) → 1970 ≤ r.year → r.year ≤ 2200 →
    AreYears (λ y. sum_by (f y) (map view_asset rows)) cells → AreYears (λ y. sum_by (f y) (map view_asset (rows ++ r ∷ []))) (with_cost counts r cells)
cost_push f true rows r cells is from to are =
    rw (view_push rows r) (push_adds f (map view_asset rows) (view_asset r) cells r.year r.cost are from to (is r.year ∙ by_year true (r.year == r.year) (same_year r.year)) (λ y apart. is y ∙ by_year false (r.year == y) (other_year r.year y apart)))
  where
    by_year : (b t : Bool) → t ≡ b → (if t then r.cost else 0) ≡ (if b then r.cost else 0)
    by_year b t e = rw e refl
cost_push f false rows r cells is from to are = rw (view_push rows r) (push_same f (map view_asset rows) (view_asset r) cells are is)

-- one that is held isn't void
pub held_bought : (r : AssetRow) → r.stage ≡ Held → (y : ℕ) → bought_in y (view_asset r) ≡ (if is_some (voucher_of (view_origin r.acquired)) && (r.year == y) then r.cost else 0)
held_bought r is y = by_stage (is_some (voucher_of (view_origin r.acquired))) (r.year == y) r.stage is
  where
    by_stage : (b t : Bool) (s : StageNow) → s ≡ Held → (if b && t && not (is_void (view_stage s)) then r.cost else 0) ≡ (if b && t then r.cost else 0)
    by_stage true true s e = rw e refl
    by_stage true false s e = refl
    by_stage false t s e = refl

pub new_book : (closed : ℕ) (rows : List AssetRow) (r : AssetRow) (cells : List ℕ) → r.stage ≡ Held → AreYears (λ y. sum_by (book_in closed y) (map view_asset rows)) cells →
    AreYears (λ y. sum_by (book_in closed y) (map view_asset (rows ++ r ∷ []))) cells
new_book closed rows r cells is are = rw (view_push rows r) (push_same (book_in closed) (map view_asset rows) (view_asset r) cells are (λ y. none y r.stage is))
  where
    none : (y : ℕ) (s : StageNow) → s ≡ Held → (if is_disposed_in y (view_stage s) then r.cost - depreciation closed (view_asset r) else 0) ≡ 0
    none y s e = rw e refl

-- ---- an asset in another stage

-- the row at a place
pub record IsAt (k : ℕ) (rows : List AssetRow) (r : AssetRow) : Type 0 where
  pub within : k < length rows
  pub is : r ≡ get_or rows k r

abbrev pub restaged : StageNow → AssetRow → AssetRow
restaged stage r = record r { stage = stage }

pub viewed : (k : ℕ) (rows : List AssetRow) (r : AssetRow) (e : Asset) → IsAt k rows r → get_or (map view_asset rows) k e ≡ view_asset r
viewed k rows r e at = view_at rows k r e at.within ∙ ap view_asset (sym at.is)

pub seen : (k : ℕ) (rows : List AssetRow) → k < length rows → k < length (map view_asset rows)
seen k rows l = rw (length-map rows view_asset) l

pub row_is : (closed k : ℕ) (rows : List AssetRow) (r : AssetRow) → IsAt k rows r → AreRows closed rows → IsRow closed k r
row_is closed k rows r at are = subst (IsRow closed k) (sym at.is) (are k r at.within)

pub restage_rows : (closed k : ℕ) (rows : List AssetRow) (r : AssetRow) (s : StageNow) → IsAt k rows r → AreRows closed rows → IsStage closed s → AreRows closed (set rows k (restaged s r))
restage_rows closed k rows r s at are ok =
    let was = row_is closed k rows r at are in
    rows_set closed rows k (restaged s r) at.within are (record { number = was.number; cost = was.cost; from = was.from; to = was.to; stage = ok })

pub restage_accumulated : (k : ℕ) (rows : List AssetRow) (r : AssetRow) (s : StageNow) (accumulated : List ℕ) → IsAt k rows r → AreAccumulated (map view_asset rows) accumulated →
    ((n : ℕ) → n < length accumulated → depreciation (n + 1) (view_asset (restaged s r)) ≡ depreciation (n + 1) (view_asset r)) → AreAccumulated (map view_asset (set rows k (restaged s r))) accumulated
restage_accumulated k rows r s accumulated at are same n l =
    rw (view_set rows k (restaged s r))
    (omega (
      arith,
      are n l,
      sum_set (depreciation (n + 1)) (map view_asset rows) k (view_asset (restaged s r)) (view_asset r) (seen k rows at.within),
      same n l,
      ap (depreciation (n + 1)) (viewed k rows r (view_asset r) at),
    ))

pub restage_same : (f : ℕ → Asset → ℕ) (k : ℕ) (rows : List AssetRow) (r : AssetRow) (s : StageNow) (cells : List ℕ) → IsAt k rows r → AreYears (λ y. sum_by (f y) (map view_asset rows)) cells →
    ((y : ℕ) → f y (view_asset (restaged s r)) ≡ f y (view_asset r)) → AreYears (λ y. sum_by (f y) (map view_asset (set rows k (restaged s r)))) cells
restage_same f k rows r s cells at are same =
    rw (view_set rows k (restaged s r))
    (set_same f (map view_asset rows) k (view_asset (restaged s r)) (view_asset r) cells (seen k rows at.within) are (λ y. same y ∙ sym (ap (f y) (viewed k rows r (view_asset r) at))))

-- ---- a void

pub fresh_row : (closed k : ℕ) (rows : List AssetRow) (r : AssetRow) → IsAt k rows r → ((d : Asset) → depreciation closed (get_or (map view_asset rows) k d) ≡ 0) → depreciation closed (view_asset r) ≡ 0
fresh_row closed k rows r at none = sym (ap (depreciation closed) (viewed k rows r (view_asset r) at)) ∙ none (view_asset r)

pub bought_row : (k : ℕ) (rows : List AssetRow) (r : AssetRow) → IsAt k rows r → ((d : Asset) → is_some (voucher_of (get_or (map view_asset rows) k d).origin) ≡ true) → is_some (voucher_of (view_origin r.acquired)) ≡ true
bought_row k rows r at some = sym (ap (λ (a : Asset). is_some (voucher_of a.origin)) (viewed k rows r (view_asset r) at)) ∙ some (view_asset r)

and_none : (b k : Bool) (n : ℕ) → k ≡ false → (if b && k then n else 0) ≡ 0
and_none true k n e = rw e refl
and_none false k n e = refl

held_now : (s : StageNow) → view_stage s ≡ held → s ≡ Held
held_now Held e = refl
held_now Void e = cc
held_now (Disposed year closed) e = cc

pub held_row : (k : ℕ) (rows : List AssetRow) (r : AssetRow) → IsAt k rows r → ((d : Asset) → (get_or (map view_asset rows) k d).stage ≡ held) → r.stage ≡ Held
held_row k rows r at keeps = held_now r.stage (sym (ap (λ (a : Asset). a.stage) (viewed k rows r (view_asset r) at)) ∙ keeps (view_asset r))

pub void_accumulated : (k : ℕ) (rows : List AssetRow) (r : AssetRow) (accumulated : List ℕ) → IsAt k rows r → depreciation (length accumulated) (view_asset r) ≡ 0 → AreAccumulated (map view_asset rows) accumulated → AreAccumulated (map view_asset (set rows k (restaged Void r))) accumulated
void_accumulated k rows r accumulated at none are =
    restage_accumulated k rows r Void accumulated at are (λ n l.
    omega (arith, none, never_falls (n + 1) (length accumulated) (view_asset r) (omega (arith, l)), not_yet (n + 1) (view_asset (restaged Void r)) (omega arith)))

pub void_bought : (k : ℕ) (rows : List AssetRow) (r : AssetRow) (cells : List ℕ) → IsAt k rows r → r.stage ≡ Held → is_some (voucher_of (view_origin r.acquired)) ≡ true → 1970 ≤ r.year → r.year ≤ 2200 →
    AreYears (λ y. sum_by (bought_in y) (map view_asset rows)) cells → AreYears (λ y. sum_by (bought_in y) (map view_asset (set rows k (restaged Void r)))) (with_cell cells r.year (cell_of cells r.year - r.cost))
void_bought k rows r cells at is some from to are =
    rw (view_set rows k (restaged Void r))
    (set_takes bought_in (map view_asset rows) k (view_asset (restaged Void r)) (view_asset r) cells r.year r.cost (seen k rows at.within) are from to
    (omega (arith, gone r.year, whole, ap (bought_in r.year) (viewed k rows r (view_asset r) at)))
    (λ y apart. gone y ∙ sym (other y apart) ∙ sym (ap (bought_in y) (viewed k rows r (view_asset r) at))))
  where
    gone : (y : ℕ) → bought_in y (view_asset (restaged Void r)) ≡ 0
    gone y = and_none (is_some (voucher_of (view_origin r.acquired)) && (r.year == y)) false r.cost refl

    value : (b t : Bool) (s : StageNow) → b ≡ true → t ≡ true → s ≡ Held → (if b && t && not (is_void (view_stage s)) then r.cost else 0) ≡ r.cost
    value b t s e f h = rw (e, f, h) refl

    whole : bought_in r.year (view_asset r) ≡ r.cost
    whole = value (is_some (voucher_of (view_origin r.acquired))) (r.year == r.year) r.stage some (same_year r.year) is

    nothing : (b t k : Bool) → t ≡ false → (if b && t && k then r.cost else 0) ≡ 0
    nothing true t k e = rw e refl
    nothing false t k e = refl

    other : (y : ℕ) → (y ≡ r.year → ⊥) → bought_in y (view_asset r) ≡ 0
    other y apart = nothing (is_some (voucher_of (view_origin r.acquired))) (r.year == y) (not (is_void (view_stage r.stage))) (other_year r.year y apart)

-- the cost of a voucher's asset is in its year
pub void_enough : (k : ℕ) (rows : List AssetRow) (r : AssetRow) (cells : List ℕ) → IsAt k rows r → r.stage ≡ Held → is_some (voucher_of (view_origin r.acquired)) ≡ true → 1970 ≤ r.year → r.year ≤ 2200 →
    AreYears (λ y. sum_by (bought_in y) (map view_asset rows)) cells → r.cost ≤ cell_of cells r.year
void_enough k rows r cells at is some from to are =
    enough_there bought_in (map view_asset rows) k (view_asset r) cells r.year r.cost (seen k rows at.within) are from to
    (ap (bought_in r.year) (viewed k rows r (view_asset r) at) ∙ value (is_some (voucher_of (view_origin r.acquired))) (r.year == r.year) r.stage some (same_year r.year) is)
  where
    value : (b t : Bool) (s : StageNow) → b ≡ true → t ≡ true → s ≡ Held → (if b && t && not (is_void (view_stage s)) then r.cost else 0) ≡ r.cost
    value b t s e f h = rw (e, f, h) refl

pub held_book : (closed y : ℕ) (r : AssetRow) → r.stage ≡ Held → book_in closed y (view_asset r) ≡ 0
held_book closed y r is = by_stage r.stage is
  where
    by_stage : (s : StageNow) → s ≡ Held → (if is_disposed_in y (view_stage s) then r.cost - depreciation closed (view_asset r) else 0) ≡ 0
    by_stage s e = rw e refl

-- ---- a disposal

pub gone_accumulated : (k at : ℕ) (rows : List AssetRow) (r : AssetRow) (accumulated : List ℕ) → IsAt k rows r → r.stage ≡ Held → AreAccumulated (map view_asset rows) accumulated → AreAccumulated (map view_asset (set rows k (restaged (Disposed at (length accumulated)) r))) accumulated
gone_accumulated k at rows r accumulated here is are =
    restage_accumulated k rows r (Disposed at (length accumulated)) accumulated here are (λ n l.
    let same : min (n + 1) (length accumulated) - r.service ≡ (n + 1) - r.service = omega (arith, l) in
    ap (depreciated r.cost r.life) (same ∙ sym (ap (λ s. counted (view_stage s) (n + 1) - r.service) is)))

pub gone_bought : (y at closed : ℕ) (r : AssetRow) → r.stage ≡ Held → bought_in y (view_asset (restaged (Disposed at closed) r)) ≡ bought_in y (view_asset r)
gone_bought y at closed r is = ap (λ s. if is_some (voucher_of (view_origin r.acquired)) && (r.year == y) && not (is_void (view_stage s)) then r.cost else 0) (sym is)

pub gone_book : (k at closed : ℕ) (rows : List AssetRow) (r : AssetRow) (cells : List ℕ) (amount : ℕ) → IsAt k rows r → r.stage ≡ Held → 1970 ≤ at → at ≤ 2200 → amount ≡ r.cost - depreciation closed (view_asset r) →
    AreYears (λ y. sum_by (book_in closed y) (map view_asset rows)) cells →
    AreYears (λ y. sum_by (book_in closed y) (map view_asset (set rows k (restaged (Disposed at closed) r)))) (with_cell cells at (cell_of cells at + amount))
gone_book k at closed rows r cells amount here is from to value are =
    rw (view_set rows k (restaged (Disposed at closed) r))
    (set_adds (book_in closed) (map view_asset rows) k (view_asset (restaged (Disposed at closed) r)) (view_asset r) cells at amount (seen k rows here.within) are from to
    (omega (arith, whole (at == at) (same_year at), value, ap (book_in closed at) (viewed k rows r (view_asset r) here), held_book closed at r is))
    (λ y apart. nothing (at == y) (other_year at y apart) ∙ sym (held_book closed y r is) ∙ sym (ap (book_in closed y) (viewed k rows r (view_asset r) here))))
  where
    accumulated : depreciation closed (view_asset (restaged (Disposed at closed) r)) ≡ depreciation closed (view_asset r)
    accumulated =
        let same : min closed closed - r.service ≡ closed - r.service = omega arith in
        ap (depreciated r.cost r.life) (same ∙ sym (ap (λ s. counted (view_stage s) closed - r.service) is))

    whole : (b : Bool) → b ≡ true → (if b then r.cost - depreciation closed (view_asset (restaged (Disposed at closed) r)) else 0) ≡ r.cost - depreciation closed (view_asset r)
    whole b e = rw e (ap (λ n. r.cost - n) accumulated)

    nothing : (b : Bool) → b ≡ false → (if b then r.cost - depreciation closed (view_asset (restaged (Disposed at closed) r)) else 0) ≡ 0
    nothing b e = rw e refl

-- ---- the close of a month

book_later : (closed y : ℕ) (r : AssetRow) → IsStage closed r.stage → book_in (closed + 1) y (view_asset r) ≡ book_in closed y (view_asset r)
book_later closed y r ok = by_stage r.stage ok
  where
    by_stage : (s : StageNow) → IsStage closed s → book_in (closed + 1) y (view_asset (record r { stage = s })) ≡ book_in closed y (view_asset (record r { stage = s }))
    by_stage Held ok = refl
    by_stage Void ok = refl
    by_stage (Disposed at months) ok =
        let same : min (closed + 1) months - r.service ≡ min closed months - r.service = omega (arith, ok) in
        ap (λ n. if at == y then r.cost - depreciated r.cost r.life n else 0) same

books_later : (closed y : ℕ) (rows : List AssetRow) → ((k : ℕ) (d : AssetRow) → k < length rows → IsStage closed (get_or rows k d).stage) → sum_by (book_in (closed + 1) y) (map view_asset rows) ≡ sum_by (book_in closed y) (map view_asset rows)
books_later closed y [] ok = refl
books_later closed y (r ∷ rows) ok =
    omega (
      arith,
      sum_by-cons (book_in (closed + 1) y) (view_asset r) (map view_asset rows),
      sum_by-cons (book_in closed y) (view_asset r) (map view_asset rows),
      book_later closed y r (ok zero r (omega arith)),
      books_later closed y rows (λ k d l. ok (suc k) d (omega arith)),
    )

pub close_books : (closed : ℕ) (rows : List AssetRow) (cells : List ℕ) → AreRows closed rows → AreYears (λ y. sum_by (book_in closed y) (map view_asset rows)) cells → AreYears (λ y. sum_by (book_in (closed + 1) y) (map view_asset rows)) cells
close_books closed rows cells are years =
    years_same (λ y. sum_by (book_in closed y) (map view_asset rows)) (λ y. sum_by (book_in (closed + 1) y) (map view_asset rows)) cells years (λ y. books_later closed y rows (λ k d l. (are k d l).stage))

pub accumulated_is : (assets : List Asset) (accumulated : List ℕ) → AreAccumulated assets accumulated → (n : ℕ) → n ≤ length accumulated → accumulated_at accumulated n ≡ sum_by (depreciation n) assets
accumulated_is assets accumulated are zero l = sym (total_first assets)
accumulated_is assets accumulated are (suc n) l =
    let next : n + 1 ≡ suc n = omega arith in
    are n (omega arith) ∙ ap (λ m. sum_by (depreciation m) assets) next

pub close_accumulated : (assets : List Asset) (accumulated : List ℕ) (before charged : ℕ) → AreAccumulated assets accumulated → before ≡ accumulated_at accumulated (length accumulated) → charged ≡ sum_by (charge (length accumulated)) assets → AreAccumulated assets (accumulated ++ (before + charged) ∷ [])
close_accumulated assets accumulated before charged are was is n l = by_place (less_or_not n (length accumulated))
  where
    by_place : (n < length accumulated) ⊎ (length accumulated ≤ n) → get_or (accumulated ++ (before + charged) ∷ []) n 0 ≡ sum_by (depreciation (n + 1)) assets
    by_place (inl a) = get_or_append_left accumulated ((before + charged) ∷ []) 0 n a ∙ are n a
    by_place (inr a) =
        let at : length accumulated ≡ n = omega (arith, a, l, length-append accumulated ((before + charged) ∷ [])) in
        get_or_push accumulated (before + charged) 0 n at
        ∙ omega (arith, was, is, accumulated_is assets accumulated are (length accumulated) (omega arith), total_next (length accumulated) assets)
        ∙ ap (λ m. sum_by (depreciation (m + 1)) assets) at

-- what all assets are depreciated by after the month fits
pub close_fits : (rows : List AssetRow) (accumulated : List ℕ) (before charged : ℕ) → length rows ≤ most_items → AreRows (length accumulated) rows → AreAccumulated (map view_asset rows) accumulated → before ≡ accumulated_at accumulated (length accumulated) →
    charged ≡ sum_by (charge (length accumulated)) (map view_asset rows) → before + charged < 340282366920938463463374607431768211456
close_fits rows accumulated before charged few are is was so =
    omega (
      arith,
      few,
      was,
      so,
      accumulated_is (map view_asset rows) accumulated is (length accumulated) (omega arith),
      total_next (length accumulated) (map view_asset rows),
      total_most (length accumulated + 1) rows (λ k d l. (are k d l).cost),
    )
