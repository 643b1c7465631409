-- The longer of two lists, and the last of one.
use Rattle.std.proofs.Common.{◌≡◌, ◌≤◌, Bool, true, false, List, length, refl, arith, ltb}
use Rattle.cf_base.proofs.Common.{nat_tests}
use Rattle.cf_turns.specs.Lists.{longer}

-- the second where the first is no longer
pub longer_second : {A : Type 0} (xs ys : List A) → length xs ≤ length ys → longer xs ys ≡ ys
longer_second xs ys le = by_case (ltb (length ys) (length xs)) refl
  where
    by_case : (b : Bool) → ltb (length ys) (length xs) ≡ b → longer xs ys ≡ ys
    by_case true is = absurd (grind (arith, nat_tests))
    by_case false is = rw is refl
