-- What a history did to its documents, as it is kept.
use Rattle.std.specs.BTreeMap.{get}
use Rattle.std.specs.Ordering.{nat_cmp}
use Rattle.cf_books_documents.specs.Indexed.{Known, list_in}
use Rattle.cf_books_documents.specs.declared.told.Told.{Told}

abbrev pub known_in : Told → Known
known_in t = record { events = λ n. list_in (get nat_cmp t.numbered n); rolls = t.rolls.items }
