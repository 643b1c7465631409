-- The floors leave of the total less than one for each place.
use Rattle.std.proofs.Common.{◌≡◌, ◌∙◌, ◌+◌, ◌*◌, ◌<◌, ◌≤◌, ℕ, suc, List, [], ◌∷◌, length, sum, sum_by, refl, sym, ap, arith, Bool, true≢false, true, false, eqb, set, ◌≢◌, ◌⊎◌, inl, inr, subst, slice_index, get_or-set_same, get_or-set_other, length-set}
use Rattle.std.proofs.lemmas.Bool.{eq-eqb, eqb-true}
use Rattle.std.proofs.lemmas.List.Sums.{sum_by-cons}
use Rattle.std.proofs.Math.Nat.{div-add-mod, mod-lt}
use Rattle.cf_base.specs.Common.{AreFair, HasFloor, HasMore, IsAhead, floor_of, rest_of}

eqb-false : (i j : ℕ) → eqb i j ≡ false → i ≢ j
eqb-false i j e same = true≢false (sym (eq-eqb i j same) ∙ e)

-- a factor that isn't zero goes
cancel : (a b m : ℕ) → 0 < m → a * m ≤ b * m → a ≤ b
cancel a b m some le = grind arith

module _ (total all : ℕ) (some : 0 < all) where
  abbrev floors : List ℕ → ℕ
  floors = sum_by (floor_of total all)

  abbrev rests : List ℕ → ℕ
  rests = sum_by (rest_of total all)

  -- floors and remainders make up the whole
  pub parts : (ws : List ℕ) → floors ws * all + rests ws ≡ total * sum ws
  parts [] = omega arith
  parts (w ∷ ws) =
      let here : floor_of total all w * all + rest_of total all w ≡ total * w = let e = div-add-mod (total * w) all in omega (arith, e) in
      let later = parts ws in
      rw (sum_by-cons (floor_of total all) w ws, sum_by-cons (rest_of total all) w ws, sum_by-cons (λ x. x) w ws) (omega (arith, here, later))

  rests_few : (ws : List ℕ) → rests ws + length ws ≤ length ws * all
  rests_few [] = omega arith
  rests_few (w ∷ ws) =
      let small : rest_of total all w < all = mod-lt (total * w) some in
      let later = rests_few ws in
      rw (sum_by-cons (rest_of total all) w ws) (omega (arith, small, later))

  pub floors_fit : (ws : List ℕ) → sum ws ≡ all → floors ws ≤ total
  floors_fit ws e =
      let whole = parts ws in
      let same : total * sum ws ≡ total * all = ap (λ n. total * n) e in
      cancel (floors ws) total all some (omega (arith, whole, same))

  pub left_few : (ws : List ℕ) (left : ℕ) → sum ws ≡ all → left + floors ws ≡ total → left ≤ length ws
  left_few ws left e s =
      let whole = parts ws in
      let same : total * sum ws ≡ total * all = ap (λ n. total * n) e in
      let split : total * all ≡ left * all + floors ws * all = ap (λ n. n * all) (sym s) ∙ omega arith in
      let few = rests_few ws in
      cancel left (length ws) all some (omega (arith, whole, same, split, few))

-- ---- one more at a place

module _ (total all : ℕ) (ws out : List ℕ) (place : ℕ) where
  abbrev after : List ℕ
  after = set out place (slice_index out place + 1)

  same_there : place < length out → slice_index after place ≡ slice_index out place + 1
  same_there lt = get_or-set_same out place _ 0 lt

  other_there : (k : ℕ) → k ≢ place → slice_index after k ≡ slice_index out k
  other_there k ne = get_or-set_other out place k _ 0 ne

  pub fair_more : AreFair total all ws out → place < length ws → HasFloor total all ws out place
      → ((k : ℕ) → k < length ws → k ≢ place → HasFloor total all ws out k → IsAhead total all ws place k) → AreFair total all ws after
  fair_more fair lt floor first = record {
    count = length-set out place _ ∙ fair.count;
    each = λ i below. each_at i below (eqb i place) refl;
    order = λ i j below under low more. order_at i j below under low more (eqb i place) (eqb j place) refl refl;
  }
    where
      fits : place < length out
      fits = omega (arith, fair.count)

      raised : HasMore total all ws after place
      raised = same_there fits ∙ ap (λ n. n + 1) floor

      each_at : (i : ℕ) → i < length ws → (b : Bool) → eqb i place ≡ b → HasFloor total all ws after i ⊎ HasMore total all ws after i
      each_at i below true e = let is : i ≡ place = eqb-true i place e in inr (subst (HasMore total all ws after) (sym is) raised)
      each_at i below false e = let ne : i ≢ place = eqb-false i place e in rw (other_there i ne) (fair.each i below)

      order_at : (i j : ℕ) → i < length ws → j < length ws → HasFloor total all ws after i → HasMore total all ws after j → (b d : Bool) → eqb i place ≡ b → eqb j place ≡ d
          → IsAhead total all ws j i
      order_at i j below under low more true d e f =
          let is : i ≡ place = eqb-true i place e in
          let high = subst (HasMore total all ws after) (sym is) raised in
          absurd (omega (arith, low, high))
      order_at i j below under low more false true e f =
          let ne : i ≢ place = eqb-false i place e in
          let is : j ≡ place = eqb-true j place f in
          subst (λ k. IsAhead total all ws k i) (sym is) (first i below ne (sym (other_there i ne) ∙ low))
      order_at i j below under low more false false e f =
          fair.order i j below under (sym (other_there i (eqb-false i place e)) ∙ low) (sym (other_there j (eqb-false j place f)) ∙ more)

-- where each place has one more than its floor, they have as many more as there are places
pub all_more : (total all : ℕ) (ws out : List ℕ) → length out ≡ length ws → ((k : ℕ) → k < length ws → HasMore total all ws out k)
    → sum out ≡ sum_by (floor_of total all) ws + length ws
all_more total all [] [] e more = refl
all_more total all [] (x ∷ xs) e more = absurd (omega (arith, e))
all_more total all (w ∷ ws) [] e more = absurd (omega (arith, e))
all_more total all (w ∷ ws) (x ∷ xs) e more =
    let head : x ≡ floor_of total all w + 1 = more 0 (omega arith) in
    let tail = all_more total all ws xs (omega (arith, e)) (λ k lt. more (suc k) (omega (arith, lt))) in
    rw (sum_by-cons (λ y. y) x xs, sum_by-cons (floor_of total all) w ws) (omega (arith, head, tail))

-- so no place is left with its floor while more is to be given
pub none_left : (total all : ℕ) (ws out : List ℕ) → AreFair total all ws out → ((k : ℕ) → k < length ws → HasFloor total all ws out k → ⊥)
    → sum out ≡ sum_by (floor_of total all) ws + length ws
none_left total all ws out fair none = all_more total all ws out fair.count (λ k lt. go k lt (fair.each k lt))
  where
    go : (k : ℕ) → k < length ws → HasFloor total all ws out k ⊎ HasMore total all ws out k → HasMore total all ws out k
    go k lt (inl low) = absurd (none k lt low)
    go k lt (inr more) = more
