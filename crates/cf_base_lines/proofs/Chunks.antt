-- Some bytes more of a source.
use Rattle.std.proofs.Common.{◌≡◌, ◌≤◌, inl, ℕ, List, length, Option, Result, Err, ap, sym, subst}
use Rattle.cf_base.proofs.Common.{Consumes, Consumes-trans}
use Rattle.cf_base_lines.specs.Reads.{IsRead, Takes}

pub took_more : (first left left' : Option (List ℕ)) (old new : List ℕ) (count : ℕ) → Consumes first left old → Takes left left' old new count → Consumes first left' new
took_more first left left' old new count took t = subst (Consumes first left') (sym t.joins) (Consumes-trans first left left' old t.piece took t.took)

pub at_end : (most : ℕ) (first left left' : Option (List ℕ)) (old new : List ℕ) (count : ℕ) → Consumes first left old → Takes left left' old new count → length new ≤ most → count ≡ 0 → IsRead most first left' new
at_end most first left left' old new count took t within none = record { took = took_more first left left' old new count took t; within = within; whole = inl (t.end none) }

-- an error is the same whatever value would stand in its place
pub same_error : {A B E : Type 0} (x y : E) → (let r : Result A E = Err x in r) ≡ Err y → (let r : Result B E = Err x in r) ≡ Err y
same_error x y e = let inside : x ≡ y = cc in ap Err inside
