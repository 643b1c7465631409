-- The entries of a beginning.
use Rattle.std.proofs.Common.{List, sym, ap, ◌∙◌}
use mathlib.Core.List.{IsPrefix}
use Rattle.cf_hall_names.specs.Lists.{entries_of}
use Rattle.cf_hall_names.proofs.Entries.{entries_append}
use Rattle.cf_turns.specs.Lists.{TaggedEntry}

pub entries_front : (xs ys : List TaggedEntry) → IsPrefix xs ys → IsPrefix (entries_of xs) (entries_of ys)
entries_front xs ys p = (entries_of p.0, sym (entries_append xs p.0) ∙ ap entries_of p.1)
