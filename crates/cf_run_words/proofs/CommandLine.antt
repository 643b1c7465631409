-- The program's command line: what a parse gives is what the words ask for.
use Rattle.std.proofs.Common.{◌≡◌, ◌∙◌, ◌⊎◌, inl, inr, subst, Err, Bool, true, false, refl, sym, ap, List, [], ◌∷◌, ◌++◌, map, Option, Some, None, option_map, option_and_then, find, fold, codes, append_assoc, append-nil, bytes_eq}
use Rattle.clap.specs.Lexer.{long_of, short_of}
use Rattle.clap.specs.Walk.{Names, Row, Rule, Text, Walk, answers_to, idle, nothing_held, rows_after, subcommand_met, walk_from, walked, with_default}
use Rattle.clap.specs.Simple.{Shape, built, label_of, names_of, subcommand_of}
use Rattle.clap.specs.Faults.{defaults_fault, fault_of, is_simple_and_free, level_fault, walk_fault}
use Rattle.clap.specs.Kinds.{IsAmong, Kinds}
use Rattle.clap.specs.declared.error.kind.ErrorKind.{ErrorKind}
use Rattle.cf_run_words.specs.Forms.{Form, Use, uses_of}
use Rattle.cf_run_words.specs.Words.{◌>>=◌, bare_form, serve_form, report_form, generate_form, pool_form, claim_form, ship_form, serve_of, report_of, generate_of, pool_of, claim_of, ship_of, command_at, command_named}
use Rattle.cf_run_words.specs.CommandLine.{program}
use Rattle.cf_run_words.specs.Parsed.{command_in}
use Rattle.cf_run_words.specs.declared.words.Command.{Command}
use Rattle.cf_run_words.specs.declared.words.Command.TheVariants as command
use Rattle.clap.specs.declared.error.kind.ErrorKind.TheVariants.{OutOfMemory}
use Rattle.cf_run_words.specs.Meets.{Gives}
use Rattle.cf_run_words.specs.declared.words.WordsRefused.{WordsRefused}
use Rattle.cf_run_words.specs.declared.words.WordsRefused.TheVariants as words
use Rattle.cf_run_words.proofs.Leaf.{AreWords, Fits, IsWord, leaf, or_else_nil, row, short_by, unless}
use Rattle.cf_run_words.proofs.Leaves.{Quiet, level, level_is}
use Rattle.cf_run_words.proofs.Commands.{bare_fits, bare_quiet, serve, serve_fits, serve_quiet, report, report_fits, report_quiet, generate, generate_fits, generate_quiet, pool, pool_fits, pool_quiet, claim, claim_fits, claim_quiet, ship, ship_fits, ship_quiet}
use Rattle.cf_run_words.proofs.Rows.{serve_read, report_read, generate_read, pool_read, claim_read, ship_read}

pub is_plain : is_simple_and_free program ≡ true
is_plain = refl

abbrev leaves : List Shape
leaves = leaf (codes "found") [] ∷ leaf (codes "desk") [] ∷ leaf (codes "serve") serve ∷ leaf (codes "report") report ∷ leaf (codes "generate") generate
    ∷ leaf (codes "pool") pool ∷ leaf (codes "claim") claim ∷ leaf (codes "ship") ship ∷ leaf (codes "follow") [] ∷ []

abbrev top : Shape
top = (built program).top

abbrev names : Names
names = names_of (built program)

-- ---- the walk after a command's name was met

abbrev stopped : Text → List Text → Walk
stopped name seen = record (walk_from nothing_held) { stopped = Some (name, seen) }

stays : (name : Text) (seen rest : List Text) → fold (walked [] names) (stopped name seen) rest ≡ stopped name (seen ++ rest)
unfolding walked
stays name seen [] = ap (stopped name) (sym (append-nil seen))
stays name seen (word ∷ rest) = stays name (seen ++ word ∷ []) rest ∙ ap (stopped name) (append_assoc seen (word ∷ []) rest)

passes : (name : Text) (seen rest : List Text) → walk_fault top names (stopped name seen) rest ≡ []
unfolding walk_fault walked
passes name seen [] = refl
passes name seen (word ∷ rest) = passes name (seen ++ word ∷ []) rest

-- ---- the command's name

-- what the parse's answer says, as one value: nothing where it refuses the words
pub parsed : List Text → Option Command
parsed words = unless (fault_of program words) (option_and_then command_in (subcommand_of program words))

unless_same : {A B : Type 0} (f : Kinds) (g : A → Option B) (x : A) → unless f (g x) ≡ option_and_then g (unless f (Some x))
unless_same [] g x = refl
unless_same (k ∷ ks) g x = refl

-- the words of a command are read by its own arguments
entered_is : (word : Text) (rest : List Text) (name : Text) (rules : List Rule) → subcommand_met names idle word ≡ Some name → bytes_eq name (codes "help") ≡ false
    → find (λ s. answers_to name (label_of s)) leaves ≡ Some (leaf name rules)
    → parsed (word ∷ rest) ≡ option_and_then (λ rows. command_in (name, rows)) (level (leaf name rules) rest)
unfolding parsed walk_fault walked defaults_fault
entered_is word rest name rules met no_help found =
    rw (met, no_help, passes name [] rest, stays name [] rest, found, or_else_nil _)
    (unless_same (level_fault (leaf name rules) [] nothing_held rest false []) (λ rows. command_in (name, rows)) (rows_after rules [] rest))

-- a word that names no command is refused
unknown_is : (word : Text) (rest : List Text) → IsWord word → subcommand_met names idle word ≡ None → parsed (word ∷ rest) ≡ None
unfolding parsed walk_fault walked
unknown_is word rest w met = by_long (long_of word) refl
  where
    by_short : (f : Option Text) → long_of word ≡ None → short_of word ≡ f → parsed (word ∷ rest) ≡ None
    by_short None e g = rw (met, w.dashes, e, g) refl
    by_short (Some flags) e g =
        let first = w.spells flags g in
        rw (met, w.dashes, e, g, short_by (codes "cityfund") [] bare_form bare_fits flags nothing_held first.0 first.1) refl

    by_long : (o : Option (Text × Option Text)) → long_of word ≡ o → parsed (word ∷ rest) ≡ None
    by_long None e = by_short (short_of word) e refl
    by_long (Some p) e = rw (met, w.dashes, e) refl

-- ---- the nine commands

shaped : (x : Option (List Use)) (rules : List Rule) (g : List Row → Option Command) (h : List Use → Option Command)
    → ((us : List Use) → g (fold with_default (map row us) rules) ≡ h us)
    → option_and_then g (option_map (λ us. fold with_default (map row us) rules) x) ≡ x >>= h
shaped None rules g h same = refl
shaped (Some us) rules g h same = same us

read_as_asked : (word : Text) (rest : List Text) (name : Text) (rules : List Rule) (form : Form) (h : List Use → Option Command) → subcommand_met names idle word ≡ Some name
    → bytes_eq name (codes "help") ≡ false → find (λ s. answers_to name (label_of s)) leaves ≡ Some (leaf name rules) → AreWords rest
    → Fits rules form → Quiet (leaf name rules) → ((us : List Use) → command_in (name, fold with_default (map row us) rules) ≡ h us)
    → parsed (word ∷ rest) ≡ uses_of form rest >>= h
read_as_asked word rest name rules form h met no_help found are fits quiet same =
    entered_is word rest name rules met no_help found
    ∙ ap (option_and_then (λ rows. command_in (name, rows))) (level_is name rules form fits quiet rest are)
    ∙ shaped (uses_of form rest) rules (λ rows. command_in (name, rows)) h same

by_name : (word : Text) (rest : List Text) (found desk serves reports generates pools claims ships follows : Bool) → IsWord word → AreWords rest
    → bytes_eq (codes "found") word ≡ found → bytes_eq (codes "desk") word ≡ desk → bytes_eq (codes "serve") word ≡ serves
    → bytes_eq (codes "report") word ≡ reports → bytes_eq (codes "generate") word ≡ generates → bytes_eq (codes "pool") word ≡ pools
    → bytes_eq (codes "claim") word ≡ claims → bytes_eq (codes "ship") word ≡ ships → bytes_eq (codes "follow") word ≡ follows
    → parsed (word ∷ rest) ≡ command_named word rest
by_name word rest true b2 b3 b4 b5 b6 b7 b8 b9 w are f1 f2 f3 f4 f5 f6 f7 f8 f9 =
    read_as_asked word rest (codes "found") [] bare_form (λ _. Some command.Found) (rw f1 refl) refl refl are bare_fits (bare_quiet (codes "found")) (λ us. refl) ∙ rw f1 refl
by_name word rest false true b3 b4 b5 b6 b7 b8 b9 w are f1 f2 f3 f4 f5 f6 f7 f8 f9 =
    read_as_asked word rest (codes "desk") [] bare_form (λ _. Some command.Desk) (rw (f1, f2) refl) refl refl are bare_fits (bare_quiet (codes "desk")) (λ us. refl) ∙ rw (f1, f2) refl
by_name word rest false false true b4 b5 b6 b7 b8 b9 w are f1 f2 f3 f4 f5 f6 f7 f8 f9 =
    read_as_asked word rest (codes "serve") serve serve_form serve_of (rw (f1, f2, f3) refl) refl refl are serve_fits (serve_quiet (codes "serve")) serve_read ∙ rw (f1, f2, f3) refl
by_name word rest false false false true b5 b6 b7 b8 b9 w are f1 f2 f3 f4 f5 f6 f7 f8 f9 =
    read_as_asked word rest (codes "report") report report_form report_of (rw (f1, f2, f3, f4) refl) refl refl are report_fits (report_quiet (codes "report")) report_read ∙ rw (f1, f2, f3, f4) refl
by_name word rest false false false false true b6 b7 b8 b9 w are f1 f2 f3 f4 f5 f6 f7 f8 f9 =
    read_as_asked word rest (codes "generate") generate generate_form generate_of (rw (f1, f2, f3, f4, f5) refl) refl refl are generate_fits (generate_quiet (codes "generate")) generate_read ∙ rw (f1, f2, f3, f4, f5) refl
by_name word rest false false false false false true b7 b8 b9 w are f1 f2 f3 f4 f5 f6 f7 f8 f9 =
    read_as_asked word rest (codes "pool") pool pool_form pool_of (rw (f1, f2, f3, f4, f5, f6) refl) refl refl are pool_fits (pool_quiet (codes "pool")) pool_read ∙ rw (f1, f2, f3, f4, f5, f6) refl
by_name word rest false false false false false false true b8 b9 w are f1 f2 f3 f4 f5 f6 f7 f8 f9 =
    read_as_asked word rest (codes "claim") claim claim_form claim_of (rw (f1, f2, f3, f4, f5, f6, f7) refl) refl refl are claim_fits (claim_quiet (codes "claim")) claim_read ∙ rw (f1, f2, f3, f4, f5, f6, f7) refl
by_name word rest false false false false false false false true b9 w are f1 f2 f3 f4 f5 f6 f7 f8 f9 =
    read_as_asked word rest (codes "ship") ship ship_form ship_of (rw (f1, f2, f3, f4, f5, f6, f7, f8) refl) refl refl are ship_fits (ship_quiet (codes "ship")) ship_read ∙ rw (f1, f2, f3, f4, f5, f6, f7, f8) refl
by_name word rest false false false false false false false false true w are f1 f2 f3 f4 f5 f6 f7 f8 f9 =
    read_as_asked word rest (codes "follow") [] bare_form (λ _. Some command.Follow) (rw (f1, f2, f3, f4, f5, f6, f7, f8, f9) refl) refl refl are bare_fits (bare_quiet (codes "follow")) (λ us. refl) ∙ rw (f1, f2, f3, f4, f5, f6, f7, f8, f9) refl
by_name word rest false false false false false false false false false w are f1 f2 f3 f4 f5 f6 f7 f8 f9 = unknown_is word rest w (rw (f1, f2, f3, f4, f5, f6, f7, f8, f9) refl) ∙ rw (f1, f2, f3, f4, f5, f6, f7, f8, f9) refl

pub parsed_is : (words : List Text) → AreWords words → parsed words ≡ command_at words
unfolding parsed walk_fault defaults_fault
parsed_is [] are = refl
parsed_is (word ∷ rest) are =
    by_name word rest (bytes_eq (codes "found") word) (bytes_eq (codes "desk") word) (bytes_eq (codes "serve") word) (bytes_eq (codes "report") word) (bytes_eq (codes "generate") word)
    (bytes_eq (codes "pool") word) (bytes_eq (codes "claim") word) (bytes_eq (codes "ship") word) (bytes_eq (codes "follow") word)
    are.0 are.1 refl refl refl refl refl refl refl refl refl

pub at_ok : (words : List Text) → AreWords words → fault_of program words ≡ [] → option_and_then command_in (subcommand_of program words) ≡ command_at words
unfolding parsed
at_ok words are none = ap (λ f. unless f (option_and_then command_in (subcommand_of program words))) (sym none) ∙ parsed_is words are

pub at_err : (words : List Text) (k : ErrorKind) → AreWords words → IsAmong k (fault_of program words) → command_at words ≡ None
unfolding parsed
at_err words k are among = sym (parsed_is words are) ∙ refused (fault_of program words) among
  where
    refused : (f : Kinds) → IsAmong k f → unless f (option_and_then command_in (subcommand_of program words)) ≡ None
    refused [] h = absurd h
    refused (j ∷ js) h = refl

-- a failed parse refuses the words, unless memory ran out
pub refuses : (r : WordsRefused) (x : Option Command) (k : ErrorKind) (f : Kinds) → (r ≡ words.NoMemory) ⊎ ((r ≡ words.BadWords) × (k ≡ OutOfMemory → ⊥))
    → (k ≡ OutOfMemory) ⊎ IsAmong k f → (IsAmong k f → x ≡ None) → Gives (Err r) x
refuses r x k f (inl e) kinds refused = subst (λ (q : WordsRefused). Gives {A = Command} (Err q) x) (sym e) tt
refuses r x k f (inr e) (inl none) refused = absurd (e.1 none)
refuses r x k f (inr e) (inr among) refused = subst (λ (q : WordsRefused). Gives {A = Command} (Err q) x) (sym e.0) (refused among)
