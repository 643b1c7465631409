-- The amortization of what is leased: what each act makes of the running numbers.
use Rattle.std.proofs.Common.{◌≡◌, ◌⊎◌, inl, inr, ℕ, zero, suc, ◌+◌, ◌-◌, ◌*◌, ◌<◌, ◌≤◌, Bool, true, false, not, if◌then◌else◌, ◌==◌, List, [], ◌∷◌, ◌++◌, length, map, get_or, sum_by, None, refl, sym, ap, ◌∙◌, arith, length-append, filter}
use Rattle.cf_base.proofs.Common.{AllByRecursion, get_or_append_left, get_or_push, sum_by-cons, sum_by-append}
use Rattle.cf_assets.specs.Charges.{charge_in}
use Rattle.cf_assets.specs.Inventory.{AreCheap, accumulated_at, staged}
use Rattle.cf_assets.specs.Leases.{AreAmortized, amortization}
use Rattle.cf_assets.specs.Steps.{voids, disposes}
use Rattle.cf_assets.proofs.Cells.{sum_push}
use Rattle.cf_assets.proofs.Charging.{depreciation_most, never_falls, not_yet}
use Rattle.cf_model.specs.Common.{Day, VoucherItem, Asset, Origin, purchase, gift, lease, Stage, void, disposed, counted, depreciation, bought, new_asset, is_leased, life_of, voucher_of, leased, owned, is_capital, is_number, disposed_asset, not_held, first_refusal, refuse_if}
use Rattle.cf_calls.specs.declared.refusal.AssetFault.TheVariants as fault
use Rattle.cf_calls.specs.declared.refusal.Refusal.TheVariants as refusal
use Rattle.cf_chart.specs.Common.{Plan, object_at}
use Rattle.cf_model.specs.Assets.{held}
use Rattle.cf_model.proofs.Common.{or_else_none, refuse_none, passed, all_so}
use Rattle.cf_base.specs.Common.{most_cents}

-- ---- sums that a step leaves, or that new assets leave

stays : (f : Asset → ℕ) (g : Asset → Asset) (xs : List Asset) → AllByRecursion (λ a. f (g a) ≡ f a) xs → sum_by f (map g xs) ≡ sum_by f xs
stays f g [] same = refl
stays f g (x ∷ xs) same = sum_by-cons f (g x) (map g xs) ∙ (λ i. same.0 i + stays f g xs same.1 i) ∙ sym (sum_by-cons f x xs)

each : {A : Type 0} (P : A → Type 0) → ((x : A) → P x) → (xs : List A) → AllByRecursion P xs
each P all [] = tt
each P all (x ∷ xs) = (all x, each P all xs)

adds_none : (f : Asset → ℕ) (xs ys : List Asset) → sum_by f ys ≡ 0 → sum_by f (xs ++ ys) ≡ sum_by f xs
adds_none f xs ys none = omega (arith, sum_by-append f xs ys, none)

-- the numbers of each month, where the sums stay
pub months_stay : (xs ys : List Asset) (closed : ℕ) (amortized : List ℕ) → ((n : ℕ) → n < closed → sum_by (amortization (n + 1)) ys ≡ sum_by (amortization (n + 1)) xs) → AreAmortized xs closed amortized → AreAmortized ys closed amortized
months_stay xs ys closed amortized same are = record { count = are.count; are = λ n l. are.are n l ∙ sym (same n l) }

-- ---- a void: a leased asset has no voucher

not_leased : (o : Origin) (n : ℕ) → is_number (voucher_of o) n ≡ true → is_leased o ≡ false
not_leased (purchase m) n e = refl
not_leased gift n e = cc
not_leased lease n e = cc

void_amortized : (n months : ℕ) (a : Asset) → amortization months (voids n a) ≡ amortization months a
void_amortized n months a = by_test (is_number (voucher_of a.origin) n) (not_leased a.origin n)
  where
    neither : (b : Bool) (x y : ℕ) → b ≡ false → (if b then x else 0) ≡ (if b then y else 0)
    neither true x y e = cc
    neither false x y e = refl

    by_test : (b : Bool) → (b ≡ true → is_leased a.origin ≡ false) → amortization months (if b then staged void a else a) ≡ amortization months a
    by_test true other = neither (is_leased a.origin) (depreciation months (staged void a)) (depreciation months a) (other refl)
    by_test false other = refl

pub void_months : (n : ℕ) (assets : List Asset) (closed : ℕ) (amortized : List ℕ) → AreAmortized assets closed amortized → AreAmortized (map (voids n) assets) closed amortized
void_months n assets closed amortized are =
    months_stay assets (map (voids n) assets) closed amortized
    (λ m l. stays (amortization (m + 1)) (voids n) assets (each (λ a. amortization (m + 1) (voids n a) ≡ amortization (m + 1) a) (void_amortized n (m + 1)) assets)) are

-- ---- a disposal: by the rule it is of an asset that isn't leased

dispose_amortized : (on : Day) (number at closed months : ℕ) (a : Asset) → ((a.number == number) ≡ true → disposed_asset on a ≡ None) → amortization months (disposes number at closed a) ≡ amortization months a
dispose_amortized on number at closed months a rule = by_test (a.number == number) rule
  where
    neither : (b : Bool) (x y : ℕ) → b ≡ false → (if b then x else 0) ≡ (if b then y else 0)
    neither true x y e = cc
    neither false x y e = refl

    other : disposed_asset on a ≡ None → is_leased a.origin ≡ false
    other none =
        let first = or_else_none (not_held a.number a.stage) _ none in
        let second = or_else_none (refuse_if (is_leased a.origin) (refusal.AssetState a.number fault.Leased)) _ first.1 in
        refuse_none (is_leased a.origin) (refusal.AssetState a.number fault.Leased) second.0

    by_test : (b : Bool) → (b ≡ true → disposed_asset on a ≡ None) → amortization months (if b then staged (disposed at closed) a else a) ≡ amortization months a
    by_test true rule = neither (is_leased a.origin) (depreciation months (staged (disposed at closed) a)) (depreciation months a) (other (rule refl))
    by_test false rule = refl

pub dispose_months : (on : Day) (number at months : ℕ) (assets : List Asset) (closed : ℕ) (amortized : List ℕ) → first_refusal (disposed_asset on) (filter (λ a. a.number == number) assets) ≡ None →
    AreAmortized assets closed amortized → AreAmortized (map (disposes number at months) assets) closed amortized
dispose_months on number at months assets closed amortized rule are =
    months_stay assets (map (disposes number at months) assets) closed amortized
    (λ n l. stays (amortization (n + 1)) (disposes number at months) assets
    (all_so (λ a. (a.number == number) ≡ true → disposed_asset on a ≡ None) (λ a. amortization (n + 1) (disposes number at months a) ≡ amortization (n + 1) a)
    (dispose_amortized on number at months (n + 1)) assets (passed (disposed_asset on) (λ a. a.number == number) assets rule))) are

-- ---- what a voucher buys isn't leased

bought_none : (f : Asset → ℕ) → ((a : Asset) → is_leased a.origin ≡ false → f a ≡ 0) → (plan : Plan) (voucher : ℕ) (on : Day) (year number : ℕ) (items : List VoucherItem) → sum_by f (bought plan voucher on year number items) ≡ 0
bought_none f none plan voucher on year number [] = refl
bought_none f none plan voucher on year number (i ∷ items) =
    by_test (is_capital (object_at plan i.account.object)) (bought_none f none plan voucher on year (number + 1) items) (bought_none f none plan voucher on year number items)
  where
    by_test : (b : Bool) → sum_by f (bought plan voucher on year (number + 1) items) ≡ 0 → sum_by f (bought plan voucher on year number items) ≡ 0 →
        sum_by f (if b then new_asset plan (purchase voucher) on year number i.account.dept (life_of plan i.account.object) i.account.amount ∷ bought plan voucher on year (number + 1) items else bought plan voucher on year number items) ≡ 0
    by_test true next same =
        let a = new_asset plan (purchase voucher) on year number i.account.dept (life_of plan i.account.object) i.account.amount in
        omega (arith, sum_by-cons f a (bought plan voucher on year (number + 1) items), none a refl, next)
    by_test false next same = same

not_amortized : (months : ℕ) (a : Asset) → is_leased a.origin ≡ false → amortization months a ≡ 0
not_amortized months a e = rw e refl

pub bought_months : (plan : Plan) (voucher : ℕ) (on : Day) (year number : ℕ) (items : List VoucherItem) (assets : List Asset) (closed : ℕ) (amortized : List ℕ) → AreAmortized assets closed amortized →
    AreAmortized (assets ++ bought plan voucher on year number items) closed amortized
bought_months plan voucher on year number items assets closed amortized are =
    let new = bought plan voucher on year number items in
    months_stay assets (assets ++ new) closed amortized (λ n l. adds_none (amortization (n + 1)) assets new (bought_none (amortization (n + 1)) (not_amortized (n + 1)) plan voucher on year number items)) are

-- ---- one asset more

-- a new asset is amortised from a month on that isn't closed
pub new_months : (assets : List Asset) (a : Asset) (closed : ℕ) (amortized : List ℕ) → a.stage ≡ held → closed ≤ a.service → AreAmortized assets closed amortized → AreAmortized (assets ++ a ∷ []) closed amortized
new_months assets a closed amortized is early are =
    months_stay assets (assets ++ a ∷ []) closed amortized (λ n l. omega (arith, sum_push (amortization (n + 1)) assets a, none n l)) are
  where
    part : (b : Bool) (n : ℕ) → n ≡ 0 → (if b then n else 0) ≡ 0
    part true n e = e
    part false n e = refl

    counted_is : (s : Stage) (m : ℕ) → s ≡ held → counted s m ≤ m
    counted_is held m e = omega arith
    counted_is void m e = omega arith
    counted_is (disposed y c) m e = omega arith

    none : (n : ℕ) → n < closed → amortization (n + 1) a ≡ 0
    none n l = part (is_leased a.origin) (depreciation (n + 1) a) (not_yet (n + 1) a (omega (arith, counted_is a.stage (n + 1) is, early, l)))

-- ---- the close of a month

pub amortized_first : (assets : List Asset) → sum_by (amortization 0) assets ≡ 0
amortized_first [] = refl
amortized_first (a ∷ assets) = omega (arith, sum_by-cons (amortization 0) a assets, amortized_first assets, part (is_leased a.origin) (depreciation 0 a) (not_yet 0 a (omega (arith, counted_none a.stage))))
  where
    part : (b : Bool) (n : ℕ) → n ≡ 0 → (if b then n else 0) ≡ 0
    part true n e = e
    part false n e = refl

    counted_none : (s : Stage) → counted s 0 ≡ 0
    counted_none held = refl
    counted_none void = refl
    counted_none (disposed year closed) = omega arith

amortized_next : (closed : ℕ) (assets : List Asset) → sum_by (amortization (closed + 1)) assets ≡ sum_by (amortization closed) assets + sum_by (charge_in true closed) assets
amortized_next closed [] = refl
amortized_next closed (a ∷ assets) =
    omega (
      arith,
      sum_by-cons (amortization (closed + 1)) a assets,
      sum_by-cons (amortization closed) a assets,
      sum_by-cons (charge_in true closed) a assets,
      amortized_next closed assets,
      one (is_leased a.origin) (depreciation closed a) (depreciation (closed + 1) a) (never_falls closed (closed + 1) a (omega arith)),
    )
  where
    one : (b : Bool) (m n : ℕ) → m ≤ n → (if b then n else 0) ≡ (if b then m else 0) + (if b then n - m else 0)
    one true m n l = omega (arith, l)
    one false m n l = refl

pub amortized_is : (assets : List Asset) (closed : ℕ) (amortized : List ℕ) → AreAmortized assets closed amortized → (n : ℕ) → n ≤ closed → accumulated_at amortized n ≡ sum_by (amortization n) assets
amortized_is assets closed amortized are zero l = sym (amortized_first assets)
amortized_is assets closed amortized are (suc n) l =
    let next : n + 1 ≡ suc n = omega arith in
    are.are n (omega (arith, l)) ∙ ap (λ m. sum_by (amortization m) assets) next

pub close_months : (assets : List Asset) (closed : ℕ) (amortized : List ℕ) (before charged : ℕ) → before ≡ accumulated_at amortized closed → charged ≡ sum_by (charge_in true closed) assets → AreAmortized assets closed amortized →
    AreAmortized assets (closed + 1) (amortized ++ (before + charged) ∷ [])
close_months assets closed amortized before charged was is are = record {
  count = length-append amortized ((before + charged) ∷ []) ∙ omega (arith, are.count);
  are = λ n l. by_place n l (less_or_not n closed);
}
  where
    less_or_not : (m n : ℕ) → (m < n) ⊎ (n ≤ m)
    less_or_not m n = grind arith

    by_place : (n : ℕ) → n < closed + 1 → (n < closed) ⊎ (closed ≤ n) → get_or (amortized ++ (before + charged) ∷ []) n 0 ≡ sum_by (amortization (n + 1)) assets
    by_place n l (inl a) = get_or_append_left amortized ((before + charged) ∷ []) 0 n (omega (arith, a, are.count)) ∙ are.are n a
    by_place n l (inr a) =
        let at : closed ≡ n = omega (arith, a, l) in
        get_or_push amortized (before + charged) 0 n (are.count ∙ at)
        ∙ omega (arith, was, is, amortized_is assets closed amortized are closed (omega arith), amortized_next closed assets)
        ∙ ap (λ m. sum_by (amortization (m + 1)) assets) at

-- ---- how much it is

amortization_most : (months : ℕ) (a : Asset) → amortization months a ≤ depreciation months a
amortization_most months a = part (is_leased a.origin) (depreciation months a)
  where
    part : (b : Bool) (n : ℕ) → (if b then n else 0) ≤ n
    part true n = omega arith
    part false n = omega arith

pub amortized_least : (months : ℕ) (assets : List Asset) → sum_by (amortization months) assets ≤ sum_by (depreciation months) assets
amortized_least months [] = omega arith
amortized_least months (a ∷ assets) = omega (arith, sum_by-cons (amortization months) a assets, sum_by-cons (depreciation months) a assets, amortization_most months a, amortized_least months assets)

pub amortized_most : (months : ℕ) (assets : List Asset) → AreCheap assets → sum_by (amortization months) assets ≤ length assets * most_cents
amortized_most months [] cheap = omega arith
amortized_most months (a ∷ assets) cheap =
    omega (arith, sum_by-cons (amortization months) a assets, amortization_most months a, depreciation_most months a, cheap zero a (omega arith), amortized_most months assets (λ k d l. cheap (suc k) d (omega arith)))

-- ---- the assets that are leased, and the others

pub part_sum : (f : Asset → ℕ) (p : Asset → Bool) (xs : List Asset) → sum_by f (filter p xs) ≡ sum_by (λ a. if p a then f a else 0) xs
part_sum f p [] = refl
part_sum f p (a ∷ xs) = by_test (p a) (part_sum f p xs) ∙ sym (sum_by-cons (λ x. if p x then f x else 0) a xs)
  where
    nothing_first : (n : ℕ) → 0 + n ≡ n
    nothing_first n = omega arith

    by_test : (b : Bool) → sum_by f (filter p xs) ≡ sum_by (λ x. if p x then f x else 0) xs →
        sum_by f (if b then a ∷ filter p xs else filter p xs) ≡ (if b then f a else 0) + sum_by (λ x. if p x then f x else 0) xs
    by_test true more = sum_by-cons f a (filter p xs) ∙ ap (λ n. f a + n) more
    by_test false more = more ∙ sym (nothing_first _)

pub amortized_leased : (months : ℕ) (assets : List Asset) → sum_by (amortization months) assets ≡ sum_by (depreciation months) (leased assets)
amortized_leased months assets = sym (part_sum (depreciation months) (λ a. is_leased a.origin) assets)

pub depreciated_parts : (months : ℕ) (assets : List Asset) → sum_by (depreciation months) assets ≡ sum_by (depreciation months) (owned assets) + sum_by (depreciation months) (leased assets)
depreciated_parts months [] = refl
depreciated_parts months (a ∷ assets) = sum_by-cons (depreciation months) a assets ∙ by_test (is_leased a.origin) (depreciated_parts months assets)
  where
    by_test : (b : Bool) → sum_by (depreciation months) assets ≡ sum_by (depreciation months) (owned assets) + sum_by (depreciation months) (leased assets) →
        depreciation months a + sum_by (depreciation months) assets
        ≡ sum_by (depreciation months) (if not b then a ∷ owned assets else owned assets) + sum_by (depreciation months) (if b then a ∷ leased assets else leased assets)
    by_test true more = omega (arith, more, sum_by-cons (depreciation months) a (leased assets))
    by_test false more = omega (arith, more, sum_by-cons (depreciation months) a (owned assets))
