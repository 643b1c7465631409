-- What the parser is told of the program's command line.
use Rattle.std.specs.Prelude.{true, List, [], ◌∷◌, ◌++◌, map, codes}
use Rattle.clap.specs.Words.{App, Rule, Shape, new_rule}
use Rattle.clap.specs.Simple.{new_shape}
use Rattle.cf_run_words.specs.CommandLine.{flag_rule, option_rule}
use Rattle.cf_books_words.specs.Options.{option_names}

-- the words are without the program's own name, and ask for no help
abbrev pub bare_shape : Shape
bare_shape = record (new_shape (codes "books")) { no_binary_name = true; disable_help_flag = true }

abbrev pub bare : App
bare = record { top = bare_shape; subs = [] }

-- the words that are no options: a command, and up to three behind it
abbrev pub place_rules : List Rule
place_rules = new_rule (codes "command") ∷ new_rule (codes "first") ∷ new_rule (codes "second")
    ∷ new_rule (codes "third") ∷ []

-- the options without a value
abbrev pub flag_rules : List Rule
flag_rules = flag_rule (codes "csv") ∷ flag_rule (codes "alone") ∷ []

-- the options with a value
abbrev pub option_rules : List Rule
option_rules = map option_rule option_names

abbrev pub with_rules : List Rule → App
with_rules rules = record { top = record bare_shape { rules = rules }; subs = [] }

abbrev pub places : App
places = with_rules place_rules

abbrev pub with_flags : App
with_flags = with_rules (place_rules ++ flag_rules)

abbrev pub program : App
program = with_rules (place_rules ++ (flag_rules ++ option_rules))
