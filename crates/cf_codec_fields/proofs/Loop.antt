-- Reading the elements of a list one after another, as a loop does.
use Rattle.std.proofs.Common.{◌≡◌, ℕ, suc, ◌-◌, ◌+◌, ◌<◌, List, [], ◌∷◌, ◌++◌, Result, Ok, Err, refl, sym, ap, ◌∙◌, append_assoc, arith}
use Rattle.cf_codec_fields.specs.declared.fault.Refused.{Refused}
use Rattle.cf_codec_fields.specs.declared.fault.Refused.TheVariants as refused
use Rattle.cf_codec_fields.specs.Readings.{Fails, with_front}
use Rattle.cf_codec_fields.specs.Formats.{Format, and_then, each_at}

regroup : {A : Type 0} (front : List A) (x : A) (reading : Result (List A × List ℕ) ℕ) → with_front front (and_then reading (λ xs after. Ok (x ∷ xs, after))) ≡ with_front (front ++ x ∷ []) reading
regroup {A} front x (Ok r) = ap (λ (xs : List A). Ok (xs, r.1)) (simp append_assoc)
regroup front x (Err left) = refl

pub goes_on : {A : Type 0} (f : Format A) (front : List A) (count i : ℕ) (bytes : List ℕ) (x : A) (after : List ℕ) (total : Result (List A × List ℕ) ℕ) → i < count → f.read bytes ≡ Ok (x, after)
    → with_front front (each_at f (count - i) bytes) ≡ total → with_front (front ++ x ∷ []) (each_at f (count - (i + 1)) after) ≡ total
unfolding each_at
goes_on f front count i bytes x after total lt h so_far =
    let k : count - i ≡ suc (count - (i + 1)) = omega arith in
    let one : with_front front (each_at f (count - i) bytes) ≡ with_front (front ++ x ∷ []) (each_at f (count - (i + 1)) after) = rw (k, h) (regroup front x (each_at f (count - (i + 1)) after)) in
    sym one ∙ so_far

pub ends : {A : Type 0} (f : Format A) (e : Refused) (front : List A) (count i : ℕ) (bytes : List ℕ) (total : Result (List A × List ℕ) ℕ) → i < count → Fails e (f.read bytes)
    → with_front front (each_at f (count - i) bytes) ≡ total → Fails e total
unfolding each_at
ends f refused.NoMemory front count i bytes total lt h so_far = tt
ends f (refused.Faulty left) front count i bytes total lt h so_far =
    let k : count - i ≡ suc (count - (i + 1)) = omega arith in
    let one : with_front front (each_at f (count - i) bytes) ≡ Err left = rw (k, h) refl in
    sym so_far ∙ one
