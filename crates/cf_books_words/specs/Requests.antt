-- The request that a parse found.
use Rattle.std.specs.Prelude.{ℕ, zero, suc, Bool, ⊤, true, false, if◌then◌else◌, List, Option, Some, None, Ok, Err, codes}
use Rattle.std.specs.Str.{bytes_eq}
use Rattle.clap.specs.Words.{Row, Text, first_of}
use Rattle.cf_base.specs.Common.{most_entries}
use Rattle.cf_books_words.specs.declared.command_word.CommandWord.{CommandWord}
use Rattle.cf_books_words.specs.declared.command_word.CommandWord.TheVariants as word
use Rattle.cf_books_words.specs.declared.options.Days.{Days}
use Rattle.cf_books_words.specs.declared.words.Command.{Command}
use Rattle.cf_books_words.specs.declared.words.Command.TheVariants as command
use Rattle.cf_books_words.specs.declared.words.WordsRefused.TheVariants.{BadWords}
use Rattle.cf_books_words.specs.Found.{balances_in, claims_in, documents_in, is_csv, ledger_in, paid_in, posts_in, statement_in}
use Rattle.cf_books_words.specs.Options.{days_in, has_only, month_in, option_in, options_of}
use Rattle.cf_books_words.specs.Words.{Asked, Read, ◌>>=◌, or_refuse}

-- the command of a word
abbrev pub word_of : Text → Option CommandWord
word_of text =
    if bytes_eq text (codes "check-chart") then Some word.CheckChart
    else (if bytes_eq text (codes "check-grants") then Some word.CheckGrants
    else (if bytes_eq text (codes "check") then Some word.Check
    else (if bytes_eq text (codes "list") then Some word.List
    else (if bytes_eq text (codes "calls") then Some word.Calls
    else (if bytes_eq text (codes "chart") then Some word.Chart
    else (if bytes_eq text (codes "lines") then Some word.Lines
    else (if bytes_eq text (codes "claims") then Some word.Claims
    else (if bytes_eq text (codes "posts") then Some word.Posts
    else (if bytes_eq text (codes "balances") then Some word.Balances
    else (if bytes_eq text (codes "open") then Some word.Open
    else (if bytes_eq text (codes "statement") then Some word.Statement
    else (if bytes_eq text (codes "ledger") then Some word.Ledger
    else (if bytes_eq text (codes "documents") then Some word.Documents
    else (if bytes_eq text (codes "month") then Some word.Month
    else (if bytes_eq text (codes "paid") then Some word.Paid else None)))))))))))))))

-- how many words stand between a command and its file
abbrev pub words_of : CommandWord → ℕ
words_of word.CheckChart = 0
words_of word.CheckGrants = 0
words_of word.Check = 0
words_of word.List = 0
words_of word.Calls = 0
words_of word.Chart = 0
words_of word.Lines = 0
words_of word.Claims = 1
words_of word.Posts = 0
words_of word.Balances = 1
words_of word.Open = 0
words_of word.Statement = 2
words_of word.Ledger = 0
words_of word.Documents = 0
words_of word.Month = 1
words_of word.Paid = 1

-- the file, where no more words follow
abbrev pub last_word : Option Text → Option Text → Read (Option Text)
last_word file None = Ok file
last_word file (Some more) = Err BadWords

-- the file of a command, behind its own words
abbrev pub file_behind : ℕ → List Row → Read (Option Text)
file_behind zero rows = last_word (first_of (codes "first") rows) (first_of (codes "second") rows)
file_behind (suc zero) rows =
    last_word (first_of (codes "second") rows) (first_of (codes "third") rows)
file_behind (suc (suc n)) rows = Ok (first_of (codes "third") rows)

-- the month of the word behind `month`
abbrev pub month_command_in : List Row → Read Command
month_command_in rows = do
  text ← or_refuse BadWords (first_of (codes "first") rows)
  month ← month_in text
  Ok (command.Month month (is_csv rows))

abbrev pub command_in : Days → List Row → CommandWord → Read Command
command_in days rows word.CheckChart = Ok command.CheckChart
command_in days rows word.CheckGrants = Ok command.CheckGrants
command_in days rows word.Check = Ok command.Check
command_in days rows word.List = Ok (command.List (is_csv rows))
command_in days rows word.Calls = Ok command.Calls
command_in days rows word.Chart = Ok command.Chart
command_in days rows word.Lines = Ok command.Lines
command_in days rows word.Claims = or_refuse BadWords (claims_in rows)
command_in days rows word.Posts = or_refuse BadWords (posts_in days.through rows)
command_in days rows word.Balances = or_refuse BadWords (balances_in days.through rows)
command_in days rows word.Open = Ok (command.Open (is_csv rows))
command_in days rows word.Statement = or_refuse BadWords (statement_in days.through rows)
command_in days rows word.Ledger = or_refuse BadWords (ledger_in days rows)
command_in days rows word.Documents = or_refuse BadWords (documents_in rows)
command_in days rows word.Month = month_command_in rows
command_in days rows word.Paid = or_refuse BadWords (paid_in rows)

-- that each option that is given is the command's own
abbrev pub must : Bool → Read ⊤
must true = Ok tt
must false = Err BadWords

-- the word of the command, which has each option that is given
abbrev pub word_in : List Row → Read CommandWord
word_in rows = do
  text ← or_refuse BadWords (first_of (codes "command") rows)
  word ← or_refuse BadWords (word_of text)
  _ ← must (has_only rows (options_of word))
  Ok word

abbrev pub entries_in : List Row → Read (Option ℕ)
entries_in rows = or_refuse BadWords (option_in 0 most_entries (first_of (codes "entries") rows))

abbrev pub asked_in : List Row → Read Asked
asked_in rows = do
  word ← word_in rows
  entries ← entries_in rows
  file ← file_behind (words_of word) rows
  days ← days_in rows
  command ← command_in days rows word
  Ok (record {
    command = command;
    file = file;
    entries = entries;
    key = first_of (codes "key") rows;
  })
