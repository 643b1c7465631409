-- The sums of a legal history keep to their sizes.
use Rattle.std.proofs.Common.{◌≡◌, ℕ, zero, suc, ◌+◌, ◌*◌, ◌^◌, ◌-◌, ◌<◌, ◌≤◌, Bool, true, false, not, if◌then◌else◌, ◌==◌, ◌&&◌, nat_le, List, [], ◌∷◌, length, take, sum_by, ℤ, pos, ◌+ℤ◌, ◌-ℤ◌, ◌≤ℤ◌, unsigned_abs, arith, filter}
use Rattle.cf_base.proofs.Common.{AllByRecursion, ints, sum_by-cons}
use Rattle.cf_base.specs.Common.{most_entries, most_cents}
use Rattle.cf_model.specs.Common.{Entry, Basis, Gov as GovBasis, Asset, counted, depreciation, is_kept, is_leased, net, Bond, Due, dues_from, owed_through, paid_to, added, carried_sum, encumbered, expended, removed, room, carried_in, closed_to, year_at, posts_in, recon_shown, registers_of, sums_of, IsLegal, int_sum}
use Rattle.cf_calls.specs.declared.read.Basis.TheVariants.{Fund as FundBasis}
use Rattle.cf_calls.specs.Common.{IsYear}
use Rattle.cf_chart.specs.Common.{Plan}
use Rattle.cf_classes.specs.Sizes.{AreSmall, IsSmallRecon}
use Rattle.cf_classes.specs.Statements.{AddUp}
use Rattle.cf_classes.proofs.Together.{funds_sum}
use Rattle.cf_classes.proofs.Whole.{classes_sum, components_sum}
use Rattle.cf_classes.proofs.Within.{balances_are, classes_within, others_sum}
use Rattle.cf_ledger.specs.declared.post.Post.{Post}
use Rattle.cf_ledger.specs.Posts.{is_in_total, sum_where}
use Rattle.cf_ledger.proofs.Sums.{within_sizes}
use Rattle.cf_model.specs.LineNumbers.{held}
use Rattle.cf_model.proofs.Common.{readable, carried_small, depreciated_most, IsLowBond, IsLowCost, are_held, IsWhole, all_filter, room_now, filter_le, posts_small}

-- ---- posts

posts_within : (basis : Basis) (plan : Plan) (h : List Entry) (test : Post → Bool) → IsWhole plan → IsLegal plan h → length h ≤ most_entries →
    unsigned_abs (sum_where test (posts_in basis plan h)) < 2 ^ 108
posts_within basis plan h test whole legal few = omega (arith, within_sizes test (posts_in basis plan h), posts_small basis plan h whole.few_functions legal, few)

-- ---- encumbrances: no line is overspent, so they are within its appropriation

within_room : (added carried removed held encumbered expended : ℕ) → added < 2 ^ 100 → carried < 2 ^ 110 →
    pos 0 ≤ℤ ((pos (added + carried) -ℤ pos removed) -ℤ pos (held + encumbered + expended)) → unsigned_abs (pos encumbered) < 2 ^ 111
within_room added carried removed held encumbered expended a c room = omega (arith, ints, a, c, room)

encumbered_small : (plan : Plan) (h : List Entry) (line year : ℕ) → IsLegal plan h → length h ≤ most_entries → line < length plan.lines → year < 2201 →
    unsigned_abs (pos (encumbered plan line year h)) < 2 ^ 111
encumbered_small plan h line year legal few there low =
    within_room (added line year h) (carried_sum plan line year (carried_in plan h)) (removed line year h) (held plan line year h) (encumbered plan line year h) (expended plan line year h)
    ((readable plan h legal few).added line year) (carried_small plan h legal few line year) (room_now plan h legal line year there low)

pub small_figures : (plan : Plan) (h : List Entry) (year : ℕ) → IsWhole plan → IsLegal plan h → length h ≤ most_entries → IsYear year → AreSmall plan (sums_of plan h) year
small_figures plan h year whole legal few is_year = record {
  encumbered = λ line there. encumbered_small plan h line year legal few there (omega (arith, is_year.to));
  balances = λ fund. posts_within FundBasis plan h (λ p. ((p.fund == fund) && is_in_total p) && nat_le p.year year) whole legal few;
}

-- ---- assets: none is worth more than its cost

net_small : (plan : Plan) (closed year : ℕ) (a : Asset) → IsLowCost a → unsigned_abs (net plan closed year a) ≤ most_cents
net_small plan closed year a low = by_test (is_kept year a)
  where
    months : ℕ
    months = closed_to plan closed year

    worth : (cost gone : ℕ) → cost ≤ most_cents → gone ≤ cost → unsigned_abs (pos cost -ℤ pos gone) ≤ most_cents
    worth cost gone l m = omega (arith, ints, l, m)

    by_test : (b : Bool) → unsigned_abs (if b then pos a.cost -ℤ pos (depreciation months a) else pos 0) ≤ most_cents
    by_test true = worth a.cost (depreciation months a) low (depreciated_most a.cost a.life (counted a.stage months - a.service))
    by_test false = omega arith

one_more : (n most : ℕ) (x y : ℤ) → unsigned_abs x ≤ most → unsigned_abs y ≤ n * most → unsigned_abs (x +ℤ y) ≤ suc n * most
one_more n most x y l m = let next : suc n * most ≡ most + n * most = omega arith in omega (arith, ints, l, m, next)

nets_small : (plan : Plan) (closed year : ℕ) (assets : List Asset) → AllByRecursion IsLowCost assets → unsigned_abs (int_sum (net plan closed year) assets) ≤ length assets * most_cents
nets_small plan closed year [] all = omega arith
nets_small plan closed year (a ∷ assets) all =
    one_more (length assets) most_cents (net plan closed year a) (int_sum (net plan closed year) assets) (net_small plan closed year a all.0) (nets_small plan closed year assets all.1)

some_small : (plan : Plan) (closed year n : ℕ) (test : Asset → Bool) (assets : List Asset) → AllByRecursion IsLowCost assets → length assets ≤ n * 32 → n ≤ most_entries →
    unsigned_abs (int_sum (net plan closed year) (filter test assets)) < 2 ^ 108
some_small plan closed year n test assets all few l =
    omega (arith, nets_small plan closed year (filter test assets) (all_filter IsLowCost test assets all), filter_le test assets, few, l)

-- ---- bonds and leases: none has repaid more than its principals

paid_small : (plan : Plan) (year every from owed count : ℕ) (principals : List ℕ) → AllByRecursion (λ (p : ℕ). p ≤ most_cents) principals →
    sum_by (λ p. paid_to plan year p p.principal) (take count (dues_from every from owed principals)) ≤ length principals * most_cents
paid_small plan year every from owed zero principals all = omega arith
paid_small plan year every from owed (suc count) [] all = omega arith
paid_small plan year every from owed (suc count) (p ∷ principals) all =
    let q : Due = record { from = from; month = from + every; owed = owed; principal = p } in
    let rest = take count (dues_from every (from + every) (owed - p) principals) in
    omega (arith, sum_by-cons (λ p. paid_to plan year p p.principal) q rest, one (nat_le (year_at plan q.month) year), paid_small plan year every (from + every) (owed - p) count principals all.1)
  where
    one : (b : Bool) → (if b then p else 0) ≤ most_cents
    one true = all.0
    one false = omega arith

owed_small : (plan : Plan) (year : ℕ) (b : Bond) → IsLowBond b → unsigned_abs (owed_through plan year b) ≤ 2000000000000000
owed_small plan year b low = left (nat_le b.year year) _ (omega (arith, paid_small plan year b.every b.month b.amount b.paid b.principals low.principals, low.terms.count))
  where
    left : (t : Bool) (paid : ℕ) → paid ≤ 1200000000000000 → unsigned_abs (pos (if t then b.amount else 0) -ℤ pos paid) ≤ 2000000000000000
    left true paid l = omega (arith, ints, l, low.terms.amount)
    left false paid l = omega (arith, ints, l)

owes_small : (plan : Plan) (year : ℕ) (bonds : List Bond) → AllByRecursion IsLowBond bonds → unsigned_abs (int_sum (owed_through plan year) bonds) ≤ length bonds * 2000000000000000
owes_small plan year [] all = omega arith
owes_small plan year (b ∷ bonds) all =
    one_more (length bonds) 2000000000000000 (owed_through plan year b) (int_sum (owed_through plan year) bonds) (owed_small plan year b all.0) (owes_small plan year bonds all.1)

turned_small : (plan : Plan) (year n : ℕ) (test : Bond → Bool) (bonds : List Bond) → AllByRecursion IsLowBond bonds → length bonds ≤ n → n ≤ most_entries →
    unsigned_abs (pos 0 -ℤ int_sum (owed_through plan year) (filter test bonds)) < 2 ^ 108
turned_small plan year n test bonds all few l =
    omega (arith, ints, owes_small plan year (filter test bonds) (all_filter IsLowBond test bonds all), filter_le test bonds, few, l)

-- ---- a reconciliation

pub small_recon : (plan : Plan) (h : List Entry) (year : ℕ) → IsWhole plan → IsLegal plan h → length h ≤ most_entries → IsSmallRecon (recon_shown plan year h)
small_recon plan h year whole legal few =
    let s = registers_of plan h in
    let are = are_held plan h legal in
    record {
      capital_assets = some_small plan s.closed year (length h) (λ a. not (is_leased a.origin)) s.assets are.costs are.few_assets few;
      right_to_use = some_small plan s.closed year (length h) (λ a. is_leased a.origin) s.assets are.costs are.few_assets few;
      bonds = turned_small plan year (length h) (λ b. not b.is_lease) s.bonds are.bonds are.few_bonds few;
      leases = turned_small plan year (length h) (λ b. b.is_lease) s.bonds are.bonds are.few_bonds few;
      net_position = posts_within GovBasis plan h (λ p. is_in_total p && nat_le p.year year) whole legal few;
    }

-- ---- the sums of the three statements

pub add_up : (plan : Plan) (h : List Entry) (year : ℕ) → AddUp plan h year
add_up plan h year = record {
  classes = classes_sum plan (sums_of plan h) year;
  within = classes_within plan h year;
  components = components_sum plan (sums_of plan h) year (recon_shown plan year h);
  balances = balances_are plan h year;
  funds = funds_sum plan (sums_of plan h) year;
  others = others_sum plan (sums_of plan h) year;
}
