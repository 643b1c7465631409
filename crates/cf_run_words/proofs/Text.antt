-- The words of a program are text, so a word of flags has a first character.
use Rattle.std.proofs.Common.{◌≡◌, ◌∙◌, ◌<◌, ◌==◌, ℕ, Bool, if◌then◌else◌, true, false, refl, sym, ap, subst, arith, List, [], ◌∷◌, ◌++◌, map, length, Some, None, option_and_then, chars, string_bytes, String, IsUtf8, slice_get}
use Rattle.cf_base.proofs.Common.{list_any, eqb-true, or_parts, IsUtf8-past_char, IsUtf8-string_bytes, encode_ascii, encodes-chars}
use Rattle.clap.specs.Lexer.{short_of, short_of_rest}
use Rattle.cf_run_words.specs.Forms.{Text}
use Rattle.cf_run_words.specs.Words.{is_dashes}
use Rattle.cf_run_words.proofs.Leaf.{AreWords, IsWord, some≢none}

some_is : (a b : Text) → Some a ≡ Some b → a ≡ b
some_is a b e = ap (λ o. Rattle.std.specs.Option.unwrap_or o a) e

-- a word of flags is a hyphen and the flags
module _ (flags : Text) where
  after_hyphen : (rest : Text) → short_of_rest rest ≡ Some flags → (rest ≡ flags) × (0 < length flags)
  after_hyphen [] e = absurd (some≢none flags (sym e))
  after_hyphen (x ∷ xs) e = go (x == 45) e
    where
      go : (b : Bool) → (if b then None else Some (x ∷ xs)) ≡ Some flags → (x ∷ xs ≡ flags) × (0 < length flags)
      go true h = absurd (some≢none flags (sym h))
      go false h = let is = some_is (x ∷ xs) flags h in (is, subst (λ l. 0 < length l) is (omega arith))

  hyphened : (word : Text) → short_of word ≡ Some flags → (word ≡ 45 ∷ flags) × (0 < length flags)
  hyphened [] e = absurd (some≢none flags (sym e))
  hyphened (b ∷ rest) e = go (b == 45) refl e
    where
      go : (p : Bool) → (b == 45) ≡ p → option_and_then short_of_rest (if p then Some rest else None) ≡ Some flags → (b ∷ rest ≡ 45 ∷ flags) × (0 < length flags)
      go false is h = absurd (some≢none flags (sym h))
      go true is h =
          let tail = after_hyphen rest h in
          ((λ i. eqb-true b 45 is i ∷ tail.0 i), tail.1)

first_char : (flags : Text) → IsUtf8 flags → 0 < length flags → (x : ℕ) × (slice_get (chars flags) 0 ≡ Some x)
first_char flags text more = go (chars flags) refl
  where
    go : (cs : List ℕ) → chars flags ≡ cs → (x : ℕ) × (slice_get (chars flags) 0 ≡ Some x)
    go [] e =
        let none : flags ≡ [] = sym (encodes-chars flags text) ∙ ap Rattle.std.specs.Prelude.encode_utf8_all e in
        let zero : length flags ≡ 0 = ap length none in
        absurd (omega arith)
    go (c ∷ cs) e = (c, rw e refl)

word_is : (word : Text) → IsUtf8 word → is_dashes word ≡ false → IsWord word
word_is word text other = record {
  dashes = other;
  spells = λ flags e.
      let parts = hyphened flags word e in
      let hyphen : 45 ∷ [] ≡ Rattle.std.specs.Char.encode_utf8 45 = sym (encode_ascii 45 (omega arith)) in
      first_char flags (IsUtf8-past_char word flags 45 text (parts.0 ∙ ap (λ l. l ++ flags) hyphen)) parts.1;
}

pub words_are : {Z : Type 0} (words : List (String Z)) → list_any is_dashes (map string_bytes words) ≡ false → AreWords (map string_bytes words)
words_are [] e = tt
words_are (word ∷ rest) e =
    let parts = or_parts (is_dashes (string_bytes word)) _ e in
    (word_is (string_bytes word) (IsUtf8-string_bytes word) parts.0, words_are rest parts.1)
