-- The words of a table.
use Rattle.std.specs.Prelude.{ℕ, List, map}
use Rattle.std.specs.Borrow.{Bor}

-- the words of a table that borrows them
abbrev pub plain_words : {A : Type 0} → List (Bor (List ℕ) × A) → List (List ℕ × A)
plain_words words = map (λ w. ((w.0).now, w.1)) words
