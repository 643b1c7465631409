-- What reading an entry answers: what the definition gives, or that memory was short.
use Rattle.std.specs.Prelude.{◌≡◌, ℕ, Result, Ok, Err, ⊤}
use Rattle.cf_codec.specs.declared.fault.CodecRefused.{CodecRefused}
use Rattle.cf_codec.specs.declared.fault.CodecRefused.TheVariants.{Fault, NoMemory}

-- the answer is this one, or memory was short
abbrev pub Answers : {A : Type 0} → Result A CodecRefused → Result A ℕ → Type 0
Answers (Ok a) x = x ≡ Ok a
Answers (Err (Fault f)) x = x ≡ Err f.offset
Answers (Err NoMemory) x = ⊤
