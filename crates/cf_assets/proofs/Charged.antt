-- Sums over the assets in service, one after another.
use Rattle.std.proofs.Common.{◌≡◌, ◌⊎◌, inl, inr, set, replicate, ℕ, zero, suc, ◌+◌, ◌<◌, ◌≤◌, Bool, true, false, if◌then◌else◌, ◌==◌, ◌&&◌, nat_lt, List, [], ◌∷◌, length, map, take, get_or, sum_by, refl, sym, ap, ◌∙◌, arith}
use Rattle.cf_base.proofs.Common.{list_all, nat_tests, eqb_tells, common_steps, take_all, get_or_default, get_or-set_same, get_or-set_other, sum_by-cons, sum_by_more}
use Rattle.cf_chart.specs.Common.{is_rising}
use Rattle.cf_model.specs.Common.{Function, function_charge, Asset, charge}
use Rattle.cf_assets.specs.declared.rows.AssetRow.{AssetRow}
use Rattle.cf_assets.specs.Charges.{StandsAt, charge_in, is_kind, of_kind}
use Rattle.cf_assets.specs.Rows.{view_asset, IsRow, AreRows, no_row}
use Rattle.cf_assets.specs.Serving.{ServeFrom}
use Rattle.cf_assets.proofs.InService.{not_charged, sum_serving}
use Rattle.cf_assets.proofs.Leases.{part_sum}
use Rattle.cf_register_parts.proofs.Lists.{less_or_not}

-- what the asset at a place adds
abbrev pub at_place : (AssetRow → ℕ) → List AssetRow → ℕ → ℕ
at_place f rows at = f (get_or rows at no_row)

pub sum-map : (f : Asset → ℕ) (rows : List AssetRow) → sum_by f (map view_asset rows) ≡ sum_by (λ r. f (view_asset r)) rows
sum-map f [] = refl
sum-map f (r ∷ rows) = sum_by-cons f (view_asset r) (map view_asset rows) ∙ ap (λ n. f (view_asset r) + n) (sum-map f rows) ∙ sym (sum_by-cons (λ r. f (view_asset r)) r rows)

pub one_more : (f : AssetRow → ℕ) (rows : List AssetRow) (serving : List ℕ) (i n total : ℕ) (d : AssetRow) → i < length serving → get_or serving i 0 < length rows → n ≡ f (get_or rows (get_or serving i 0) d) →
    total ≡ sum_by (at_place f rows) (take i serving) → total + n ≡ sum_by (at_place f rows) (take (i + 1) serving)
one_more f rows serving i n total d l at is so =
    omega (arith, so, is, ap f (get_or_default rows (get_or serving i 0) d no_row at), sum_by_more (at_place f rows) serving i 0 l)

-- the whole sum is one over all assets
pub all_places : (f : AssetRow → ℕ) (closed : ℕ) (rows : List AssetRow) (serving : List ℕ) (i total : ℕ) → ((r : AssetRow) (k : ℕ) → IsRow closed k r → charge closed (view_asset r) ≡ 0 → f r ≡ 0) → AreRows closed rows →
    ServeFrom closed 0 rows serving → length serving ≤ i → total ≡ sum_by (at_place f rows) (take i serving) → total ≡ sum_by f rows
all_places f closed rows serving i total none are serve l is =
    is ∙ ap (sum_by (at_place f rows)) (take_all i serving l)
    ∙ sum_serving f closed no_row rows serving (λ k kl out. none (get_or rows k no_row) k (are k no_row kl) (not_charged closed (get_or rows k no_row) (are k no_row kl).stage out)) serve

pub all_charged : (closed : ℕ) (rows : List AssetRow) (serving : List ℕ) (i total : ℕ) → AreRows closed rows → ServeFrom closed 0 rows serving → length serving ≤ i →
    total ≡ sum_by (at_place (λ r. charge closed (view_asset r)) rows) (take i serving) → total ≡ sum_by (charge closed) (map view_asset rows)
all_charged closed rows serving i total are serve l is =
    all_places (λ r. charge closed (view_asset r)) closed rows serving i total (λ r k row e. e) are serve l is ∙ sym (sum-map (charge closed) rows)

-- ---- function by function

-- what a month charges to a function for an asset of a kind
abbrev pub part_of : Bool → ℕ → ℕ → AssetRow → ℕ
part_of is_lease closed function r = if r.function == function then charge_in is_lease closed (view_asset r) else 0

-- a charge for the assets of a kind, as one over all
kind_charge : (is_lease : Bool) (closed function : ℕ) (assets : List Asset) →
    function_charge closed (of_kind is_lease assets) function ≡ sum_by (λ a. if a.function == function then charge_in is_lease closed a else 0) assets
kind_charge is_lease closed function assets = part_sum (λ a. if a.function == function then charge closed a else 0) (is_kind is_lease) assets ∙ swapped assets
  where
    one : (k f : Bool) (n : ℕ) → (if k then (if f then n else 0) else 0) ≡ (if f then (if k then n else 0) else 0)
    one true true n = refl
    one true false n = refl
    one false true n = refl
    one false false n = refl

    swapped : (xs : List Asset) → sum_by (λ a. if is_kind is_lease a then (if a.function == function then charge closed a else 0) else 0) xs
        ≡ sum_by (λ a. if a.function == function then charge_in is_lease closed a else 0) xs
    swapped [] = refl
    swapped (a ∷ xs) =
        sum_by-cons (λ x. if is_kind is_lease x then (if x.function == function then charge closed x else 0) else 0) a xs
        ∙ (λ i. one (is_kind is_lease a) (a.function == function) (charge closed a) i + swapped xs i)
        ∙ sym (sum_by-cons (λ (x : Asset). if x.function == function then charge_in is_lease closed x else 0) a xs)

none_in : (b : Bool) (n : ℕ) → n ≡ 0 → (if b then n else 0) ≡ 0
none_in true n e = e
none_in false n e = refl

pub all_of_function : (is_lease : Bool) (closed function : ℕ) (rows : List AssetRow) (serving : List ℕ) (i total : ℕ) → AreRows closed rows → ServeFrom closed 0 rows serving → length serving ≤ i →
    total ≡ sum_by (at_place (part_of is_lease closed function) rows) (take i serving) → total ≡ function_charge closed (of_kind is_lease (map view_asset rows)) function
all_of_function is_lease closed function rows serving i total are serve l is =
    all_places (part_of is_lease closed function) closed rows serving i total
    (λ r k row e. none_in (r.function == function) _ (none_in (is_kind is_lease (view_asset r)) (charge closed (view_asset r)) e)) are serve l is
    ∙ sym (sum-map (λ a. if a.function == function then charge_in is_lease closed a else 0) rows)
    ∙ sym (kind_charge is_lease closed function (map view_asset rows))

-- .. and for all leased assets
pub all_leased : (closed : ℕ) (rows : List AssetRow) (serving : List ℕ) (i total : ℕ) → AreRows closed rows → ServeFrom closed 0 rows serving → length serving ≤ i →
    total ≡ sum_by (at_place (λ r. charge_in true closed (view_asset r)) rows) (take i serving) → total ≡ sum_by (charge_in true closed) (map view_asset rows)
all_leased closed rows serving i total are serve l is =
    all_places (λ r. charge_in true closed (view_asset r)) closed rows serving i total (λ r k row e. none_in (is_kind true (view_asset r)) (charge closed (view_asset r)) e) are serve l is
    ∙ sym (sum-map (charge_in true closed) rows)

both : (a b : Bool) → (a && b) ≡ true → (a ≡ true) × (b ≡ true)
both true b e = (refl, e)
both false b e = cc

all_at : (p : Function → Bool) (fs : List Function) (k : ℕ) (d : Function) → list_all p fs ≡ true → k < length fs → p (get_or fs k d) ≡ true
all_at p [] k d e l = absurd (omega arith)
all_at p (f ∷ fs) zero d e l = (both (p f) (list_all p fs) e).0
all_at p (f ∷ fs) (suc k) d e l = all_at p fs k d ((both (p f) (list_all p fs) e).1) (omega arith)

-- ids rise
pub rising_at : (fs : List Function) (j k : ℕ) (d e : Function) → is_rising (λ f. f.id) fs ≡ true → j < k → k < length fs → (get_or fs j d).id < (get_or fs k e).id
rising_at [] j k d e r l m = absurd (omega arith)
rising_at (f ∷ fs) zero zero d e r l m = absurd (omega arith)
rising_at (f ∷ fs) zero (suc k) d e r l m =
    less f.id (get_or fs k e).id (all_at (λ (g : Function). nat_lt f.id g.id) fs k e ((both (list_all (λ (g : Function). nat_lt f.id g.id) fs) (is_rising (λ (g : Function). g.id) fs) r).0) (omega arith))
  where
    less : (a b : ℕ) → nat_lt a b ≡ true → a < b
    less a b e = grind (arith, nat_tests)
rising_at (f ∷ fs) (suc j) zero d e r l m = absurd (omega arith)
rising_at (f ∷ fs) (suc j) (suc k) d e r l m = rising_at fs j k d e ((both (list_all (λ (g : Function). nat_lt f.id g.id) fs) (is_rising (λ (g : Function). g.id) fs) r).1) (omega arith) (omega arith)

-- halving: all up to a function that is too low are, and all from one on that is too high
pub halve_up : (fs : List Function) (id m : ℕ) (f : Function) → is_rising (λ f. f.id) fs ≡ true → m < length fs → f ≡ get_or fs m f → f.id < id → (k : ℕ) (d : Function) → k < length fs → k < m + 1 → (get_or fs k d).id < id
halve_up fs id m f rising within at low k d l below = by_place (less_or_not k m)
  where
    by_place : (k < m) ⊎ (m ≤ k) → (get_or fs k d).id < id
    by_place (inl a) = omega (arith, rising_at fs k m d f rising a within, ap (λ (g : Function). g.id) at, low)
    by_place (inr a) =
        let same : k ≡ m = omega (arith, a, below) in
        omega (arith, low, ap (λ (g : Function). g.id) (ap (λ n. get_or fs n d) same ∙ get_or_default fs m d f within ∙ sym at))

pub halve_down : (fs : List Function) (id m : ℕ) (f : Function) → is_rising (λ f. f.id) fs ≡ true → m < length fs → f ≡ get_or fs m f → id < f.id → (k : ℕ) (d : Function) → k < length fs → m ≤ k → id < (get_or fs k d).id
halve_down fs id m f rising within at high k d l above = by_place (less_or_not m k)
  where
    by_place : (m < k) ⊎ (k ≤ m) → id < (get_or fs k d).id
    by_place (inl a) = omega (arith, rising_at fs m k f d rising a l, ap (λ (g : Function). g.id) at, high)
    by_place (inr a) =
        let same : k ≡ m = omega (arith, a, above) in
        omega (arith, high, ap (λ (g : Function). g.id) (ap (λ n. get_or fs n d) same ∙ get_or_default fs m d f within ∙ sym at))

-- the sum at a function's place has more, and the others stay
pub adds_at : (fs : List Function) (id place n : ℕ) (sums : List ℕ) → is_rising (λ f. f.id) fs ≡ true → StandsAt id fs place → place < length sums → (k : ℕ) (d : Function) → k < length fs →
    get_or (set sums place (get_or sums place 0 + n)) k 0 ≡ get_or sums k 0 + (if id == (get_or fs k d).id then n else 0)
adds_at fs id place n sums rising at l k d kl = by_place (eqb_tells k place)
  where
    agree : (a b : ℕ) → a ≡ b → (if a == b then n else 0) ≡ n
    agree a b e = rw (test a b e) refl
      where
        test : (a b : ℕ) → a ≡ b → (a == b) ≡ true
        test a b e = grind (arith, common_steps)

    differ : (a b : ℕ) → (a ≡ b → ⊥) → (if a == b then n else 0) ≡ 0
    differ a b e = rw (test a b e) refl
      where
        test : (a b : ℕ) → (a ≡ b → ⊥) → (a == b) ≡ false
        test a b e = grind (arith, common_steps)

    apart : (k ≡ place → ⊥) → id ≡ (get_or fs k d).id → ⊥
    apart other same = by_order (less_or_not k place) (less_or_not place k)
      where
        by_order : (k < place) ⊎ (place ≤ k) → (place < k) ⊎ (k ≤ place) → ⊥
        by_order (inl a) b = absurd (omega (arith, rising_at fs k place d d rising a at.within, at.is d, same))
        by_order (inr a) (inl b) = absurd (omega (arith, rising_at fs place k d d rising b kl, at.is d, same))
        by_order (inr a) (inr b) = other (omega (arith, a, b))

    by_place : ((k == place ≡ true) × (k ≡ place)) ⊎ ((k == place ≡ false) × (k ≡ place → ⊥)) → get_or (set sums place (get_or sums place 0 + n)) k 0 ≡ get_or sums k 0 + (if id == (get_or fs k d).id then n else 0)
    by_place (inl h) =
        ap (λ j. get_or (set sums place (get_or sums place 0 + n)) j 0) h.1
        ∙ get_or-set_same sums place (get_or sums place 0 + n) 0 l
        ∙ omega (arith, ap (λ j. get_or sums j 0) h.1, agree id (get_or fs k d).id (sym (at.is d) ∙ ap (λ j. (get_or fs j d).id) (sym h.1)))
    by_place (inr h) = get_or-set_other sums place k (get_or sums place 0 + n) 0 h.1 ∙ omega (arith, differ id (get_or fs k d).id (apart h.1))

pub zeros : (n k : ℕ) → get_or {A = ℕ} (replicate n 0) k 0 ≡ 0
zeros zero k = refl
zeros (suc n) zero = refl
zeros (suc n) (suc k) = zeros n k

-- the charge of an asset, added where the asset is the function's
pub one_function : (is_lease : Bool) (closed function : ℕ) (rows : List AssetRow) (serving : List ℕ) (i amount old new : ℕ) (d : AssetRow) → i < length serving → get_or serving i 0 < length rows →
    amount ≡ charge_in is_lease closed (view_asset (get_or rows (get_or serving i 0) d)) → new ≡ old + (if (get_or rows (get_or serving i 0) d).function == function then amount else 0) →
    old ≡ sum_by (at_place (part_of is_lease closed function) rows) (take i serving) → new ≡ sum_by (at_place (part_of is_lease closed function) rows) (take (i + 1) serving)
one_function is_lease closed function rows serving i amount old new d l at is added so =
    let r = get_or rows (get_or serving i 0) d in
    added ∙ one_more (part_of is_lease closed function) rows serving i (if r.function == function then amount else 0) old d l at (ap (λ n. if r.function == function then n else 0) is) so
