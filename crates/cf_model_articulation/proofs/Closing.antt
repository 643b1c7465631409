-- What a history posts balances through each year: so what its accounts from 300000 on come to is
-- what those below come to, turned.
use Rattle.std.proofs.Common.{◌≡◌, ◌⊎◌, inl, inr, ℕ, zero, suc, ◌+◌, ◌≤◌, ◌<◌, Bool, true, false, not, if◌then◌else◌, ◌==◌, ◌&&◌, nat_le, List, [], ◌∷◌, ℤ, pos, ◌+ℤ◌, refl, sym, ap, ◌∙◌, arith, add-one}
use Rattle.cf_base.proofs.Common.{leb_tells, eqb_tells, ints}
use Rattle.cf_model.specs.Common.{Entry, Basis, posts_after, posts_in, Registers, no_registers, registers_step}
use Rattle.cf_chart.specs.Common.{Plan}
use Rattle.cf_ledger.specs.declared.post.Post.{Post}
use Rattle.cf_ledger.specs.Posts.{is_in_total, sum_where}
use Rattle.cf_ledger.proofs.Sums.{next_year, sum_append}
use Rattle.cf_model.proofs.Common.{each_entry_balances, none_first}
use Rattle.cf_post.specs.Balance.{BalancesFunds}

pub same_sum : (s t : Post → Bool) → ((p : Post) → s p ≡ t p) → (posts : List Post) → sum_where s posts ≡ sum_where t posts
same_sum s t same [] = refl
same_sum s t same (p ∷ posts) = λ i. (if same p i then p.amount else pos 0) +ℤ same_sum s t same posts i

-- ---- each year, and so through each year

posts_balance_after : (basis : Basis) (plan : Plan) (s : Registers) (h : List Entry) → BalancesFunds (posts_after basis plan s h)
posts_balance_after basis plan s [] year fund = refl
posts_balance_after basis plan s (e ∷ h) year fund =
    sum_append (λ p. (p.year == year) && (p.fund == fund)) _ (posts_after basis plan (registers_step plan s e) h)
    ∙ (λ i. each_entry_balances basis plan s e.change.on e.change.act year fund i +ℤ posts_balance_after basis plan (registers_step plan s e) h year fund i)
    ∙ none_first (pos 0)

at_zero : (y : ℕ) → nat_le y 0 ≡ (y == 0)
at_zero y = by_tests (nat_le y 0) (y == 0) (leb_tells y 0) (eqb_tells y 0)
  where
    by_tests : (p q : Bool) → ((p ≡ true) × (y ≤ 0)) ⊎ ((p ≡ false) × (0 < y)) → ((q ≡ true) × (y ≡ 0)) ⊎ ((q ≡ false) × (y ≡ 0 → ⊥)) → p ≡ q
    by_tests p q (inl h) (inl k) = h.0 ∙ sym k.0
    by_tests p q (inl h) (inr k) = absurd (k.1 (omega (arith, h.1)))
    by_tests p q (inr h) (inl k) = absurd (omega (arith, h.1, k.1))
    by_tests p q (inr h) (inr k) = h.0 ∙ sym k.0

swapped : (a b : Bool) → (a && b) ≡ (b && a)
swapped true true = refl
swapped true false = refl
swapped false true = refl
swapped false false = refl

-- posts that come to nothing in each year come to nothing through each
through_none : (test : Post → Bool) (posts : List Post) → ((year : ℕ) → sum_where (λ p. (p.year == year) && test p) posts ≡ pos 0) → (year : ℕ) →
    sum_where (λ p. test p && nat_le p.year year) posts ≡ pos 0
through_none test posts none zero =
    same_sum (λ p. test p && nat_le p.year 0) (λ p. (p.year == 0) && test p) (λ p. ap (λ b. test p && b) (at_zero p.year) ∙ swapped (test p) (p.year == 0)) posts ∙ none 0
through_none test posts none (suc year) =
    ap (λ y. sum_where (λ p. test p && nat_le p.year y) posts) (sym (add-one year))
    ∙ next_year test posts year
    ∙ (λ i. through_none test posts none year i
    +ℤ (same_sum (λ p. test p && (p.year == year + 1)) (λ p. (p.year == year + 1) && test p) (λ p. swapped (test p) (p.year == year + 1)) posts ∙ none (year + 1)) i)
    ∙ none_first (pos 0)

-- ---- the accounts below 300000 and the others

abbrev pub is_change : Post → Bool
is_change p = not (is_in_total p)

two_parts : (b q c : Bool) (x s t : ℤ) → ((if (b && q) && c then x else pos 0) +ℤ s) +ℤ ((if (b && not q) && c then x else pos 0) +ℤ t) ≡ (if b && c then x else pos 0) +ℤ (s +ℤ t)
two_parts true true true x s t = omega (arith, ints)
two_parts true true false x s t = omega (arith, ints)
two_parts true false true x s t = omega (arith, ints)
two_parts true false false x s t = omega (arith, ints)
two_parts false q c x s t = omega (arith, ints)

both_parts : (year fund : ℕ) (posts : List Post) →
    sum_where (λ p. ((p.fund == fund) && is_in_total p) && nat_le p.year year) posts +ℤ sum_where (λ p. ((p.fund == fund) && is_change p) && nat_le p.year year) posts
    ≡ sum_where (λ p. (p.fund == fund) && nat_le p.year year) posts
both_parts year fund [] = refl
both_parts year fund (p ∷ posts) =
    two_parts (p.fund == fund) (is_in_total p) (nat_le p.year year) p.amount (sum_where (λ p. ((p.fund == fund) && is_in_total p) && nat_le p.year year) posts)
    (sum_where (λ p. ((p.fund == fund) && is_change p) && nat_le p.year year) posts)
    ∙ ap (λ z. (if (p.fund == fund) && nat_le p.year year then p.amount else pos 0) +ℤ z) (both_parts year fund posts)

-- on either basis, of a fund, or of the government as a whole, which is of no fund
pub parts_close : (basis : Basis) (plan : Plan) (year fund : ℕ) (h : List Entry) →
    sum_where (λ p. ((p.fund == fund) && is_in_total p) && nat_le p.year year) (posts_in basis plan h)
    +ℤ sum_where (λ p. ((p.fund == fund) && is_change p) && nat_le p.year year) (posts_in basis plan h)
    ≡ pos 0
parts_close basis plan year fund h =
    both_parts year fund (posts_in basis plan h)
    ∙ through_none (λ p. p.fund == fund) (posts_in basis plan h) (λ y. posts_balance_after basis plan no_registers h y fund) year
