-- What an answer may be, where want of memory is free.
use Rattle.std.specs.Prelude.{◌≡◌, ⊤, Option, Some, None, Result, Ok, Err}
use Rattle.cf_run_words.specs.declared.words.WordsRefused.{WordsRefused}
use Rattle.cf_run_words.specs.declared.words.WordsRefused.TheVariants.{BadWords, NoMemory}

-- the answer has the value, or says that there is none
abbrev pub Gives : {A : Type 0} → Result A WordsRefused → Option A → Type 0
Gives (Ok a) x = x ≡ Some a
Gives (Err BadWords) x = x ≡ None
Gives (Err NoMemory) x = ⊤
