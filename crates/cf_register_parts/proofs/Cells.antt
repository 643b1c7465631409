-- What the cells of the years have.
use Rattle.std.proofs.Common.{◌≡◌, ◌⊎◌, inl, inr, ℕ, zero, suc, ◌+◌, ◌-◌, ◌*◌, ◌<◌, ◌≤◌, Bool, true, false, ◌==◌, List, take, set, get_or, sum, refl, sym, ap, ◌∙◌, arith}
use Rattle.cf_base.proofs.Common.{eqb_tells, length-set, length-replicate, get_or-replicate, get_or-set_same, get_or-set_other, take_all, sum_by_more}
use Rattle.cf_register_parts.specs.Years.{AreYears, cell_of, with_cell, no_years, sum_to}

-- a year's cell, as a place of the list
pub year_is : (of : ℕ → ℕ) (cells : List ℕ) (year : ℕ) → AreYears of cells → 1970 ≤ year → year ≤ 2200 → cell_of cells year ≡ of year
year_is of cells year are from to =
    let back : (year - 1970) + 1970 ≡ year = omega (arith, from) in are.are (year - 1970) (omega (arith, from, to)) ∙ ap of back

-- the same amounts
pub years_same : (F G : ℕ → ℕ) (cells : List ℕ) → AreYears F cells → ((year : ℕ) → G year ≡ F year) → AreYears G cells
years_same F G cells are same = record { count = are.count; are = λ n l. are.are n l ∙ sym (same (n + 1970)) }

-- one year has another amount
pub years_set : (F G : ℕ → ℕ) (cells : List ℕ) (at amount : ℕ) → AreYears F cells → 1970 ≤ at → at ≤ 2200 → G at ≡ amount → ((year : ℕ) → (year ≡ at → ⊥) → G year ≡ F year) →
    AreYears G (with_cell cells at amount)
years_set F G cells at amount are from to here others = record {
  count = length-set cells (at - 1970) amount ∙ are.count;
  are = λ n l. by_place n l (n + 1970 == at) (eqb_tells (n + 1970) at);
}
  where
    by_place : (n : ℕ) → n < 231 → (b : Bool) → ((b ≡ true) × (n + 1970 ≡ at)) ⊎ ((b ≡ false) × (n + 1970 ≡ at → ⊥)) → get_or (set cells (at - 1970) amount) n 0 ≡ G (n + 1970)
    by_place n l b (inl h) =
        let place : at - 1970 ≡ n = omega (arith, h.1) in
        ap (λ k. get_or (set cells k amount) n 0) place ∙ get_or-set_same cells n amount 0 (omega (arith, l, are.count)) ∙ sym here ∙ ap G (sym h.1)
    by_place n l b (inr h) =
        get_or-set_other cells (at - 1970) n amount 0 (λ same. h.1 (omega (arith, same, from))) ∙ are.are n l ∙ sym (others (n + 1970) h.1)

pub none_years : (F : ℕ → ℕ) → ((year : ℕ) → F year ≡ 0) → AreYears F no_years
none_years F none = record { count = length-replicate {A = ℕ} 231 0; are = λ n l. get_or-replicate {A = ℕ} 231 n 0 0 l ∙ sym (none (n + 1970)) }

-- ---- the sums of the years

pub cells_to : (of : ℕ → ℕ) (cells : List ℕ) → AreYears of cells → (n : ℕ) → n ≤ 231 → sum (take n cells) ≡ sum_to of n
cells_to of cells are zero l = refl
cells_to of cells are (suc n) l =
    let more : suc n ≡ n + 1 = omega arith in
    ap (λ m. sum (take m cells)) more
    ∙ sum_by_more (λ (x : ℕ). x) cells n 0 (omega (arith, are.count))
    ∙ (λ i. cells_to of cells are n (omega (arith, l)) i + are.are n (omega (arith, l)) i)

pub to_most : (of : ℕ → ℕ) (most : ℕ) → ((year : ℕ) → of year ≤ most) → (n : ℕ) → sum_to of n ≤ n * most
to_most of most all zero = omega arith
to_most of most all (suc n) =
    let more : suc n * most ≡ n * most + most = times n most in
    omega (arith, to_most of most all n, all (n + 1970), more)
  where
    times : (a b : ℕ) → suc a * b ≡ a * b + b
    times a b = omega arith

pub cells_most : (of : ℕ → ℕ) (cells : List ℕ) (most : ℕ) → AreYears of cells → ((year : ℕ) → of year ≤ most) → sum cells ≤ 231 * most
cells_most of cells most are all =
    let whole : take 231 cells ≡ cells = take_all 231 cells (omega (arith, are.count)) in
    omega (arith, ap sum whole, cells_to of cells are 231 (omega arith), to_most of most all 231)
