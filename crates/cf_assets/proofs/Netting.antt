-- Capital assets, net, from the sums of the years.
use Rattle.std.proofs.Common.{◌≡◌, ◌⊎◌, inl, inr, ℕ, zero, suc, ◌+◌, ◌-◌, ◌<◌, ◌≤◌, Bool, true, false, not, if◌then◌else◌, ◌==◌, ◌&&◌, nat_le, List, [], ◌∷◌, length, get_or, sum_by, is_some, ℤ, pos, ◌+ℤ◌, ◌-ℤ◌, refl, sym, ap, ◌∙◌, arith, filter}
use Rattle.cf_base.proofs.Common.{AllByRecursion, leb_tells, ints, sum_by-cons}
use Rattle.cf_assets.specs.Years.{bought_in, given_in, let_in, book_in}
use Rattle.cf_register_parts.specs.Years.{sum_to}
use Rattle.cf_assets.proofs.Charging.{depreciation_most, total_first}
use Rattle.cf_chart.specs.Common.{Plan}
use Rattle.cf_model.specs.Common.{Asset, Origin, purchase, gift, lease, Stage, void, disposed, depreciation, net, is_there, voucher_of, is_given, is_leased, leased, owned, outlay, donated, leased_in, depreciated_in, book_value, is_void, is_disposed_in, closed_to, int_sum}
use Rattle.cf_model.specs.Assets.{held}
use Rattle.cf_model.proofs.Common.{asset_years, sum_minus, IsSoundAsset, all_filter, sum_same, sum_pos, none_first, split_sum}
use Rattle.cf_assets.proofs.Leases.{depreciated_parts}

-- ---- each row as a sum of cents

bought_is : (year : ℕ) (a : Asset) → outlay year a ≡ pos (bought_in year a)
bought_is year a = by_test (is_some (voucher_of a.origin) && (a.year == year) && not (is_void a.stage))
  where
    by_test : (b : Bool) → (if b then pos a.cost else pos 0) ≡ pos (if b then a.cost else 0)
    by_test true = refl
    by_test false = refl

given_is : (year : ℕ) (a : Asset) → donated year a ≡ pos (given_in year a)
given_is year a = by_test (is_given a.origin && (a.year == year))
  where
    by_test : (b : Bool) → (if b then pos a.cost else pos 0) ≡ pos (if b then a.cost else 0)
    by_test true = refl
    by_test false = refl

book_is : (closed year : ℕ) (a : Asset) → book_value closed year a ≡ pos (book_in closed year a)
book_is closed year a = by_test (is_disposed_in year a.stage)
  where
    less : (c d : ℕ) → d ≤ c → pos c -ℤ pos d ≡ pos (c - d)
    less c d l = omega (arith, ints, l)

    by_test : (b : Bool) → (if b then pos a.cost -ℤ pos (depreciation closed a) else pos 0) ≡ pos (if b then a.cost - depreciation closed a else 0)
    by_test true = less a.cost (depreciation closed a) (depreciation_most closed a)
    by_test false = refl

pub outlay_sum : (year : ℕ) (assets : List Asset) → int_sum (outlay year) assets ≡ pos (sum_by (bought_in year) assets)
outlay_sum year assets = sum_same (outlay year) (λ a. pos (bought_in year a)) (bought_is year) assets ∙ sym (sum_pos (bought_in year) assets)

pub donated_sum : (year : ℕ) (assets : List Asset) → int_sum (donated year) assets ≡ pos (sum_by (given_in year) assets)
donated_sum year assets = sum_same (donated year) (λ a. pos (given_in year a)) (given_is year) assets ∙ sym (sum_pos (given_in year) assets)

let_is : (year : ℕ) (a : Asset) → leased_in year a ≡ pos (let_in year a)
let_is year a = by_test (is_leased a.origin && (a.year == year))
  where
    by_test : (b : Bool) → (if b then pos a.cost else pos 0) ≡ pos (if b then a.cost else 0)
    by_test true = refl
    by_test false = refl

pub let_sum : (year : ℕ) (assets : List Asset) → int_sum (leased_in year) assets ≡ pos (sum_by (let_in year) assets)
let_sum year assets = sum_same (leased_in year) (λ a. pos (let_in year a)) (let_is year) assets ∙ sym (sum_pos (let_in year) assets)

pub book_sum : (closed year : ℕ) (assets : List Asset) → int_sum (book_value closed year) assets ≡ pos (sum_by (book_in closed year) assets)
book_sum closed year assets = sum_same (book_value closed year) (λ a. pos (book_in closed year a)) (book_is closed year) assets ∙ sym (sum_pos (book_in closed year) assets)

pub accumulated_sum : (plan : Plan) (closed year : ℕ) (assets : List Asset) →
    int_sum (depreciated_in plan closed year) assets ≡ pos (sum_by (depreciation (closed_to plan closed year)) assets) -ℤ pos (sum_by (depreciation (closed_to plan closed (year - 1))) assets)
accumulated_sum plan closed year assets =
    sum_minus (λ a. pos (depreciation (closed_to plan closed year) a)) (λ a. pos (depreciation (closed_to plan closed (year - 1)) a)) assets
    ∙ (λ i. sym (sum_pos (depreciation (closed_to plan closed year)) assets) i -ℤ sym (sum_pos (depreciation (closed_to plan closed (year - 1))) assets) i)

-- ---- net

-- no asset counts before the first year
none_yet : (plan : Plan) (closed : ℕ) (assets : List Asset) → ((k : ℕ) (d : Asset) → k < length assets → 1970 ≤ (get_or assets k d).year) → int_sum (net plan closed 1969) assets ≡ pos 0
none_yet plan closed [] from = refl
none_yet plan closed (a ∷ assets) from =
    (λ i. by_test (nat_le a.year 1969) (leb_tells a.year 1969) i +ℤ none_yet plan closed assets (λ k d l. from (suc k) d (omega arith)) i) ∙ none_first (pos 0)
  where
    first : 1970 ≤ a.year
    first = from zero a (omega arith)

    by_test : (b : Bool) → ((b ≡ true) × (a.year ≤ 1969)) ⊎ ((b ≡ false) × (1969 < a.year)) →
        (if b && is_there 1969 a.stage then pos a.cost -ℤ pos (depreciation (closed_to plan closed 1969) a) else pos 0) ≡ pos 0
    by_test b (inl h) = absurd (omega (arith, h.1, first))
    by_test b (inr h) = rw h.0 refl

net_to : (plan : Plan) (closed : ℕ) (assets : List Asset) → 1971 ≤ plan.first_year → ((k : ℕ) (d : Asset) → k < length assets → 1970 ≤ (get_or assets k d).year) → AllByRecursion (IsSoundAsset plan closed) assets → (n : ℕ) →
    int_sum (net plan closed (n + 1969)) assets
    ≡ pos ((sum_to (λ y. sum_by (bought_in y) assets) n + sum_to (λ y. sum_by (given_in y) assets) n) + sum_to (λ y. sum_by (let_in y) assets) n)
    -ℤ pos (sum_to (λ y. sum_by (book_in closed y) assets) n + sum_by (depreciation (closed_to plan closed (n + 1969))) assets)
net_to plan closed assets first from sound zero =
    let none : closed_to plan closed 1969 ≡ 0 = omega (arith, first) in
    let nothing : sum_by (depreciation (closed_to plan closed 1969)) assets ≡ 0 = ap (λ m. sum_by (depreciation m) assets) none ∙ total_first assets in
    none_yet plan closed assets from ∙ empty (sum_by (depreciation (closed_to plan closed 1969)) assets) nothing
  where
    empty : (m : ℕ) → m ≡ 0 → pos 0 ≡ pos ((0 + 0) + 0) -ℤ pos (0 + m)
    empty m e = omega (arith, ints, e)
net_to plan closed assets first from sound (suc n) =
    let year : suc n + 1969 ≡ n + 1970 = omega arith in
    let before : (n + 1970) - 1 ≡ n + 1969 = omega arith in
    ap (λ y. int_sum (net plan closed y) assets) year
    ∙ asset_years plan closed (n + 1970) assets (omega arith) sound
    ∙ adds (int_sum (net plan closed ((n + 1970) - 1)) assets) (int_sum (outlay (n + 1970)) assets) (int_sum (donated (n + 1970)) assets) (int_sum (leased_in (n + 1970)) assets) (int_sum (depreciated_in plan closed (n + 1970)) assets)
    (int_sum (book_value closed (n + 1970)) assets) (sum_to (λ y. sum_by (bought_in y) assets) n) (sum_to (λ y. sum_by (given_in y) assets) n) (sum_to (λ y. sum_by (let_in y) assets) n) (sum_to (λ y. sum_by (book_in closed y) assets) n)
    (sum_by (depreciation (closed_to plan closed (n + 1969))) assets) (sum_by (bought_in (n + 1970)) assets) (sum_by (given_in (n + 1970)) assets) (sum_by (let_in (n + 1970)) assets) (sum_by (book_in closed (n + 1970)) assets)
    (sum_by (depreciation (closed_to plan closed (n + 1970))) assets) (ap (λ y. int_sum (net plan closed y) assets) before ∙ net_to plan closed assets first from sound n) (outlay_sum (n + 1970) assets) (donated_sum (n + 1970) assets) (let_sum (n + 1970) assets)
    (accumulated_sum plan closed (n + 1970) assets ∙ ap (λ y. pos (sum_by (depreciation (closed_to plan closed (n + 1970))) assets) -ℤ pos (sum_by (depreciation (closed_to plan closed y)) assets)) before) (book_sum closed (n + 1970) assets)
    ∙ ap
    (λ y. pos (((sum_to (λ z. sum_by (bought_in z) assets) n + sum_by (bought_in (n + 1970)) assets) + (sum_to (λ z. sum_by (given_in z) assets) n + sum_by (given_in (n + 1970)) assets))
    + (sum_to (λ z. sum_by (let_in z) assets) n + sum_by (let_in (n + 1970)) assets))
    -ℤ pos ((sum_to (λ z. sum_by (book_in closed z) assets) n + sum_by (book_in closed (n + 1970)) assets) + sum_by (depreciation (closed_to plan closed y)) assets))
    (sym year)
  where
    adds : (was o d u w g : ℤ) (b1 g1 l1 k1 d1 b2 g2 l2 k2 d2 : ℕ) → was ≡ pos ((b1 + g1) + l1) -ℤ pos (k1 + d1) → o ≡ pos b2 → d ≡ pos g2 → u ≡ pos l2 → w ≡ pos d2 -ℤ pos d1 → g ≡ pos k2 →
        was +ℤ ((((o +ℤ d) +ℤ u) -ℤ w) -ℤ g) ≡ pos (((b1 + b2) + (g1 + g2)) + (l1 + l2)) -ℤ pos ((k1 + k2) + d2)
    adds was o d u w g b1 g1 l1 k1 d1 b2 g2 l2 k2 d2 e1 e2 e3 e4 e5 e6 = omega (arith, ints, e1, e2, e3, e4, e5, e6)

-- ---- what is leased, and the rest

-- each of the assets that pass is of a year that is kept
kept_filter : (p : Asset → Bool) (assets : List Asset) → AllByRecursion (λ (a : Asset). 1970 ≤ a.year) assets → (k : ℕ) (d : Asset) → k < length (filter p assets) → 1970 ≤ (get_or (filter p assets) k d).year
kept_filter p assets from = at (filter p assets) (all_filter (λ (a : Asset). 1970 ≤ a.year) p assets from)
  where
    at : (xs : List Asset) → AllByRecursion (λ (a : Asset). 1970 ≤ a.year) xs → (k : ℕ) (d : Asset) → k < length xs → 1970 ≤ (get_or xs k d).year
    at [] all k d l = absurd (omega arith)
    at (x ∷ xs) all zero d l = all.0
    at (x ∷ xs) all (suc k) d l = at xs all.1 k d (omega arith)

kept_all : (assets : List Asset) → ((k : ℕ) (d : Asset) → k < length assets → 1970 ≤ (get_or assets k d).year) → AllByRecursion (λ (a : Asset). 1970 ≤ a.year) assets
kept_all [] from = tt
kept_all (a ∷ assets) from = (from zero a (omega arith), kept_all assets (λ k d l. from (suc k) d (omega arith)))

-- of leased assets nothing was bought, given or disposed of
leased_none : (f : Asset → ℕ) (P : Asset → Type 0) (assets : List Asset) → ((a : Asset) → P a → is_leased a.origin ≡ true → f a ≡ 0) → AllByRecursion P assets → sum_by f (leased assets) ≡ 0
leased_none f P [] none all = refl
leased_none f P (a ∷ assets) none all = by_test (is_leased a.origin) (none a all.0) (leased_none f P assets none all.1)
  where
    by_test : (b : Bool) → (b ≡ true → f a ≡ 0) → sum_by f (leased assets) ≡ 0 → sum_by f (if b then a ∷ leased assets else leased assets) ≡ 0
    by_test true here rest = omega (arith, sum_by-cons f a (leased assets), here refl, rest)
    by_test false here rest = rest

leased_same : (f : Asset → ℕ) (assets : List Asset) → ((a : Asset) → is_leased a.origin ≡ false → f a ≡ 0) → sum_by f (leased assets) ≡ sum_by f assets
leased_same f [] none = refl
leased_same f (a ∷ assets) none = by_test (is_leased a.origin) (none a) (leased_same f assets none)
  where
    by_test : (b : Bool) → (b ≡ false → f a ≡ 0) → sum_by f (leased assets) ≡ sum_by f assets → sum_by f (if b then a ∷ leased assets else leased assets) ≡ sum_by f (a ∷ assets)
    by_test true other rest = omega (arith, sum_by-cons f a (leased assets), sum_by-cons f a assets, rest)
    by_test false other rest = omega (arith, sum_by-cons f a assets, other refl, rest)

sum_to_none : (of : ℕ → ℕ) → ((y : ℕ) → of y ≡ 0) → (n : ℕ) → sum_to of n ≡ 0
sum_to_none of none zero = refl
sum_to_none of none (suc n) = omega (arith, sum_to_none of none n, none (n + 1970))

sum_to_same : (f g : ℕ → ℕ) → ((y : ℕ) → f y ≡ g y) → (n : ℕ) → sum_to f n ≡ sum_to g n
sum_to_same f g same zero = refl
sum_to_same f g same (suc n) = omega (arith, sum_to_same f g same n, same (n + 1970))

not_bought : (year : ℕ) (a : Asset) → is_leased a.origin ≡ true → bought_in year a ≡ 0
not_bought year a e = by_origin a.origin e
  where
    by_origin : (o : Origin) → is_leased o ≡ true → (if is_some (voucher_of o) && (a.year == year) && not (is_void a.stage) then a.cost else 0) ≡ 0
    by_origin (purchase n) e = cc
    by_origin gift e = cc
    by_origin lease e = refl

not_given : (year : ℕ) (a : Asset) → is_leased a.origin ≡ true → given_in year a ≡ 0
not_given year a e = by_origin a.origin e
  where
    by_origin : (o : Origin) → is_leased o ≡ true → (if is_given o && (a.year == year) then a.cost else 0) ≡ 0
    by_origin (purchase n) e = cc
    by_origin gift e = cc
    by_origin lease e = refl

not_gone : (plan : Plan) (closed year : ℕ) (a : Asset) → IsSoundAsset plan closed a → is_leased a.origin ≡ true → book_in closed year a ≡ 0
not_gone plan closed year a sound is = by_stage a.stage (sound.kept is)
  where
    by_stage : (s : Stage) → s ≡ held → (if is_disposed_in year s then a.cost - depreciation closed a else 0) ≡ 0
    by_stage held e = refl
    by_stage void e = refl
    by_stage (disposed at months) e = cc

not_let : (year : ℕ) (a : Asset) → is_leased a.origin ≡ false → let_in year a ≡ 0
not_let year a e = rw e refl

pub leased_net : (plan : Plan) (closed : ℕ) (assets : List Asset) → 1971 ≤ plan.first_year → ((k : ℕ) (d : Asset) → k < length assets → 1970 ≤ (get_or assets k d).year) → AllByRecursion (IsSoundAsset plan closed) assets → (n : ℕ) →
    int_sum (net plan closed (n + 1969)) (leased assets) ≡ pos (sum_to (λ y. sum_by (let_in y) assets) n) -ℤ pos (sum_by (depreciation (closed_to plan closed (n + 1969))) (leased assets))
leased_net plan closed assets first from sound n =
    net_to plan closed (leased assets) first (kept_filter (λ a. is_leased a.origin) assets (kept_all assets from)) (all_filter (IsSoundAsset plan closed) (λ a. is_leased a.origin) assets sound) n
    ∙ adds _ _ _ _ _ (sum_by (depreciation (closed_to plan closed (n + 1969))) (leased assets))
    (sum_to_none (λ y. sum_by (bought_in y) (leased assets)) (λ y. leased_none (bought_in y) (IsSoundAsset plan closed) assets (λ a s is. not_bought y a is) sound) n)
    (sum_to_none (λ y. sum_by (given_in y) (leased assets)) (λ y. leased_none (given_in y) (IsSoundAsset plan closed) assets (λ a s is. not_given y a is) sound) n)
    (sum_to_same (λ y. sum_by (let_in y) (leased assets)) (λ y. sum_by (let_in y) assets) (λ y. leased_same (let_in y) assets (not_let y)) n)
    (sum_to_none (λ y. sum_by (book_in closed y) (leased assets)) (λ y. leased_none (book_in closed y) (IsSoundAsset plan closed) assets (not_gone plan closed y) sound) n)
  where
    adds : (b g l m k d : ℕ) → b ≡ 0 → g ≡ 0 → l ≡ m → k ≡ 0 → pos ((b + g) + l) -ℤ pos (k + d) ≡ pos m -ℤ pos d
    adds b g l m k d e1 e2 e3 e4 = omega (arith, ints, e1, e2, e3, e4)

pub owned_net : (plan : Plan) (closed : ℕ) (assets : List Asset) → 1971 ≤ plan.first_year → ((k : ℕ) (d : Asset) → k < length assets → 1970 ≤ (get_or assets k d).year) → AllByRecursion (IsSoundAsset plan closed) assets → (n : ℕ) →
    int_sum (net plan closed (n + 1969)) (owned assets)
    ≡ pos (sum_to (λ y. sum_by (bought_in y) assets) n + sum_to (λ y. sum_by (given_in y) assets) n)
    -ℤ pos (sum_to (λ y. sum_by (book_in closed y) assets) n + sum_by (depreciation (closed_to plan closed (n + 1969))) (owned assets))
owned_net plan closed assets first from sound n =
    adds (int_sum (net plan closed (n + 1969)) (owned assets)) (int_sum (net plan closed (n + 1969)) (leased assets)) (int_sum (net plan closed (n + 1969)) assets) _ _ _ _ _ _ _
    (split_sum (net plan closed (n + 1969)) (λ a. is_leased a.origin) assets) (leased_net plan closed assets first from sound n) (net_to plan closed assets first from sound n)
    (depreciated_parts (closed_to plan closed (n + 1969)) assets)
  where
    adds : (o h w : ℤ) (b g l k d dl own : ℕ) → o +ℤ h ≡ w → h ≡ pos l -ℤ pos dl → w ≡ pos ((b + g) + l) -ℤ pos (k + d) → d ≡ own + dl → o ≡ pos (b + g) -ℤ pos (k + own)
    adds o h w b g l k d dl own e1 e2 e3 e4 = omega (arith, ints, e1, e2, e3, e4)
