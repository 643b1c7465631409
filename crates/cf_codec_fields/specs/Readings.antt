-- What a reader of a field gives: what the definition gives, or that memory was short.
use Rattle.std.specs.Prelude.{◌≡◌, ℕ, List, ◌++◌, Result, Ok, Err, ⊤}
use Rattle.cf_codec_fields.specs.Formats.{and_then}
use Rattle.cf_codec_fields.specs.declared.fault.Refused.{Refused}
use Rattle.cf_codec_fields.specs.declared.fault.Refused.TheVariants as refused

-- a reader of a part answers with this refusal
abbrev pub Fails : {B : Type 0} → Refused → Result B ℕ → Type 0
Fails (refused.Faulty left) x = x ≡ Err left
Fails refused.NoMemory x = ⊤

-- what a reader of a part gives, its bytes seen as a list, is this
abbrev pub Gives : {A B : Type 0} → (A → B) → Result A Refused → Result B ℕ → Type 0
Gives view (Ok a) x = x ≡ Ok (view a)
Gives view (Err e) x = Fails e x

-- what was read before, in front of what is still read
abbrev pub with_front : {A : Type 0} → List A → Result (List A × List ℕ) ℕ
    → Result (List A × List ℕ) ℕ
with_front front reading = and_then reading (λ xs rest. Ok (front ++ xs, rest))
