-- What the words ask for.
use Rattle.std.specs.Prelude.{ℕ, ◌≡◌, ⊤, Option, Some, None, option_map, Result, Ok, Err, codes}
use Rattle.std.specs.Borrow.{Bor}
use Rattle.clap.specs.Words.{Text}
use Rattle.cf_books_words.specs.declared.words.Command.{Command}
use Rattle.cf_books_words.specs.declared.words.Command.TheVariants as command
use Rattle.cf_books_words.specs.declared.words.Request.{Request}
use Rattle.cf_books_words.specs.declared.words.WordsRefused.{WordsRefused}
use Rattle.cf_books_words.specs.declared.words.WordsRefused.TheVariants.{BadWords, NoMemory, NoSuchDay}

-- a command with what stands beside it, where it is named: the file that it reads, how many of the
-- journal's first entries it is said of, and what the key of a document contains
pub record Asked : Type 0 where
  pub command : Command
  pub file : Option Text
  pub entries : Option ℕ
  pub key : Option Text

-- the file of a command where none is named: the chart, the document of grants, or the journal
abbrev pub own_path : Command → Text
own_path command.CheckChart = codes "chart.toml"
own_path command.CheckGrants = codes "grants.toml"
own_path (command.Claims grant csv) = codes "grants.toml"
own_path _ = codes "fund.journal"

-- the file that is read
abbrev pub path_by : Option Text → Command → Text
path_by (Some path) c = path
path_by None c = own_path c

abbrev pub path_of : Asked → Text
path_of a = path_by a.file a.command

-- ---- a value, or why the words give none

abbrev pub Read : Type 0 → Type 0
Read A = Result A WordsRefused

infixl 10 ◌>>=◌
abbrev pub ◌>>=◌ : {A B : Type 0} → Read A → (A → Read B) → Read B
(Ok a) >>= f = f a
(Err e) >>= f = Err e

abbrev pub or_refuse : {A : Type 0} → WordsRefused → Option A → Read A
or_refuse why None = Err why
or_refuse why (Some a) = Ok a

-- texts, as contracts see what the code borrows of them
abbrev pub texts : Read (Option (Bor Text)) → Read (Option Text)
texts (Ok text) = Ok (option_map (λ t. t.now) text)
texts (Err e) = Err e

-- ---- answers, where want of memory is free

abbrev pub asks : Request → Asked
asks r = record {
  command = r.command;
  file = option_map (λ f. f.now) r.file;
  entries = r.entries;
  key = option_map (λ k. k.now) r.key;
}

abbrev pub Gives : Result Request WordsRefused → Read Asked → Type 0
Gives (Ok r) x = x ≡ Ok (asks r)
Gives (Err NoMemory) x = ⊤
Gives (Err BadWords) x = x ≡ Err BadWords
Gives (Err NoSuchDay) x = x ≡ Err NoSuchDay
