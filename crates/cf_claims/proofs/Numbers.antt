-- The number that a claim's key writes.
use Rattle.std.proofs.Common.{◌≡◌, ℕ, ◌<◌, ◌^◌, Bool, true, false, List, ◌++◌, drop, decimal, codes, refl, sym, ap, ◌∙◌, arith, true≢false, eq-eqb, ◌==◌, Option, Some, None, IfSome, bytes_eq}
use Rattle.cf_base.proofs.Common.{bytes_eq-Decides, eqb-true, decimal_injective}
use Rattle.cf_claims.specs.Claims.{claim_key}
use Rattle.cf_claims.specs.Marks.{IsClaimNumber, is_this}

same_tail : (xs ys : List ℕ) → codes "claim-" ++ xs ≡ codes "claim-" ++ ys → xs ≡ ys
same_tail xs ys e = ap (drop 6) e

pub tail_of : (key text : List ℕ) (n : ℕ) → key ≡ codes "claim-" ++ text → key ≡ claim_key n → text ≡ decimal n
tail_of key text n is e = same_tail text (decimal n) (sym is ∙ e)

-- ---- whether a key is the claim of a number

-- two claims' keys are one where their numbers are
same_claim : (m n : ℕ) → m < 2 ^ 32 → n < 2 ^ 32 → (m == n) ≡ bytes_eq (claim_key m) (claim_key n)
same_claim m n h k = by (m == n) (bytes_eq (claim_key m) (claim_key n)) refl refl
  where
    by : (a b : Bool) → (m == n) ≡ a → bytes_eq (claim_key m) (claim_key n) ≡ b → a ≡ b
    by true true e f = refl
    by false false e f = refl
    by true false e f =
        absurd (true≢false (sym ((bytes_eq-Decides (claim_key m) (claim_key n)).1 (ap claim_key (eqb-true m n e))) ∙ f))
    by false true e f =
        let same = decimal_injective m n (omega arith) (omega arith) (same_tail (decimal m) (decimal n) ((bytes_eq-Decides (claim_key m) (claim_key n)).0 f)) in
        absurd (true≢false (sym (eq-eqb m n same) ∙ e))

no_claim : (key : List ℕ) (n : ℕ) → (key ≡ claim_key n → ⊥) → false ≡ bytes_eq key (claim_key n)
no_claim key n other = by (bytes_eq key (claim_key n)) refl
  where
    by : (b : Bool) → bytes_eq key (claim_key n) ≡ b → false ≡ b
    by false e = refl
    by true e = absurd (other ((bytes_eq-Decides key (claim_key n)).0 e))

pub number_of_claim : (key : List ℕ) (o : Option ℕ) → IfSome o (λ m. m < 2 ^ 32) → IsClaimNumber key o → (n : ℕ) → n < 2 ^ 32 → is_this n o ≡ bytes_eq key (claim_key n)
number_of_claim key (Some m) small is n h = same_claim m n small h ∙ ap (λ k. bytes_eq k (claim_key n)) (sym is)
number_of_claim key None small is n h = no_claim key n (is n h)
