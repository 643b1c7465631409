-- A word in a table that borrows its words.
use Rattle.std.proofs.Common.{◌≡◌, ℕ, List, [], ◌∷◌, Bool, true, false, Option, Some, option_map, find, refl, Bor, cond, bytes_eq}
use Rattle.cf_json_members.specs.Kinds.{word_in}
use Rattle.cf_json.specs.Words.{plain_words}

step : {A : Type 0} → (b : Bool) (w : Bor (List ℕ) × A) (o : Option (List ℕ × A)) (u : Option (Bor (List ℕ) × A)) → option_map (λ p. p.1) o ≡ option_map (λ p. p.1) u → option_map (λ p. p.1) (cond b (Some ((w.0).now, w.1)) o) ≡ option_map (λ p. p.1) (cond b (Some w) u)
step true w o u e = refl
step false w o u e = e

pub plain_word : {A : Type 0} → (words : List (Bor (List ℕ) × A)) (text : List ℕ) → word_in (plain_words words) text ≡ option_map (λ p. p.1) (find (λ w. bytes_eq text (w.0).now) words)
plain_word [] text = refl
plain_word (w ∷ words) text = step (bytes_eq text (w.0).now) w _ _ (plain_word words text)
