-- What the words ask for, as the parser reads them.
use Rattle.std.specs.Prelude.{List, [], ◌∷◌, Err}
use Rattle.clap.specs.Words.{Kinds, Text, fault_of, matches_of}
use Rattle.cf_books_words.specs.CommandLine.{program}
use Rattle.cf_books_words.specs.Requests.{asked_in}
use Rattle.cf_books_words.specs.Words.{Asked, Read}
use Rattle.cf_books_words.specs.declared.words.WordsRefused.TheVariants.{BadWords}

-- nothing where the parser refuses the words
abbrev pub unless : Kinds → Read Asked → Read Asked
unless [] asked = asked
unless (k ∷ ks) asked = Err BadWords

-- what the words ask for
abbrev pub parsed : List Text → Read Asked
parsed words = unless (fault_of program words) (asked_in (matches_of program words))
