-- Texts put into a map of places.
use Rattle.std.proofs.Common.{◌≡◌, ℕ, Bool, true, false, if◌then◌else◌, List, Option, Some, None, is_some, refl, sym, ap, ◌∙◌, arith, unwrap_or, bytes_eq}
use Rattle.cf_base.proofs.Common.{common_steps, get_by_text, bytes_eq-Decides}
use Rattle.cf_office_history.specs.Keys.{Keys, text_number}

pub text_put : (old new : Keys) (key q : List ℕ) (place : ℕ) →
    get_by_text new q ≡ (if bytes_eq key q then Some place else get_by_text old q) →
    text_number new q ≡ (if bytes_eq key q then place else text_number old q)
text_put old new key q place h = ap (λ o. unwrap_or o 0) h ∙ by_test (bytes_eq key q) (get_by_text old q)
  where
    by_test : (b : Bool) (r : Option ℕ) → unwrap_or (if b then Some place else r) 0 ≡ (if b then place else unwrap_or r 0)
    by_test true r = refl
    by_test false r = refl

pub none_of : {X : Type 0} (o : Option X) → is_some o ≡ false → o ≡ None
none_of None e = refl
none_of (Some x) e = cc

pub same_bytes : (a b : List ℕ) → bytes_eq a b ≡ true → a ≡ b
same_bytes a b e = let d = bytes_eq-Decides a b in grind (arith, common_steps)

-- a key put with 0 where it was missing
pub text_reserved : (old new : Keys) (key q : List ℕ) → get_by_text old key ≡ None →
    get_by_text new q ≡ (if bytes_eq key q then Some 0 else get_by_text old q) → text_number new q ≡ text_number old q
text_reserved old new key q missing h = by_test (bytes_eq key q) refl
  where
    by_test : (b : Bool) → bytes_eq key q ≡ b → text_number new q ≡ text_number old q
    by_test true e = rw (h, e) (sym (ap (λ o. unwrap_or o 0) (ap (get_by_text old) (sym (same_bytes key q e)) ∙ missing)))
    by_test false e = rw (h, e) refl
