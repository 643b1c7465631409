-- An office in memory keeps its promises.
use Rattle.std.proofs.Common.{◌≡◌, ◌<◌, List, [], ◌∷◌, ◌++◌, length, length-append, Result, Ok, Err, sym, subst, arith, OnOk, OnErr}
use Rattle.cf_base.proofs.Common.{All-push}
use Rattle.cf_base.specs.Common.{most_entries}
use Rattle.cf_calls.specs.declared.entry.Entry.{Entry}
use Rattle.cf_calls.specs.Common.{IsEntryInForm}
use Rattle.cf_follow.specs.Memory.{IsMemory}

pub memory_after : {T E : Type 0} (r : Result T E) (old new : List Entry) (e : Entry) → IsMemory old → IsEntryInForm e → length old < most_entries → OnOk r (new ≡ old ++ e ∷ []) → OnErr r (new ≡ old) → IsMemory new
memory_after (Ok x) old new e is form few added same =
    subst IsMemory (sym added) (record { form = All-push IsEntryInForm old e is.form form; few = omega (arith, length-append old (e ∷ []), few) })
memory_after (Err x) old new e is form few added same = subst IsMemory (sym same) is
