-- What a parse makes of the words after a command's name, where its arguments are plain: options
-- with one value, flags, places.
use Rattle.std.proofs.Common.{◌≡◌, ◌∙◌, ◌+◌, ◌||◌, ℕ, Bool, true≢false, if◌then◌else◌, true, false, refl, sym, ap, ap₂, rules, List, [], ◌∷◌, ◌++◌, Option, Some, None, option_and_then, is_some, fold, codes, length, bytes_eq, slice_get, min, chars}
use Rattle.clap.specs.Lexer.{long_of, short_of}
use Rattle.clap.specs.Lexer.{usize_max}
use Rattle.clap.specs.Walk.{Held, Row, Rule, Waiting, Walk, idle, option, arg_by_id, arg_by_index, arg_by_long, arg_by_short, has_row, is_multiple, most_values, settled, takes_several, takes_values, used, walked}
use Rattle.clap.specs.Simple.{Shape, new_shape}
use Rattle.cf_base.proofs.Common.{and_right, bytes_eq-Decides, chars-nil}
use Rattle.clap.specs.Faults.{flags_fault, long_fault, option_fault, react_fault, settle_fault, turn_fault, use_fault, walk_fault}
use Rattle.clap.specs.Kinds.{Kinds, or_else}
use Rattle.clap.specs.declared.builder.value_parser.Reading.TheVariants.{AsWritten}
use Rattle.clap.specs.declared.error.kind.ErrorKind.TheVariants as kind
use Rattle.clap.specs.declared.parser.matches.ValueSource.TheVariants.{CommandLine}
use Rattle.cf_run_words.specs.Forms.{Text, Use, Form, is_among, placed, told, uses_from, with_use}

-- the row of a use
abbrev pub row : Use → Row
row u = record { id = u.0; values = u.1 ∷ []; count = None; source = Some CommandLine; reading = AsWritten }

-- a command with no subcommand and these arguments, as a parse enters it
abbrev pub leaf : Text → List Rule → Shape
leaf name rules = record (new_shape name) {
  rules = rules;
  no_binary_name = true;
  disable_help_flag = true;
  disable_help_subcommand = true;
  is_built = true;
}

abbrev pub holding : List Row → Option (Text × List Text) → Held
holding rows pending = record { rows = rows; pending = pending; skip = 0 }

abbrev pub at : List Row → Option (Text × List Text) → Waiting → ℕ → Walk
at rows pending waiting p = record { held = holding rows pending; waiting = waiting; position = p; is_trailing = false; stopped = None }

-- the rest, where nothing was refused before it
abbrev pub unless : {A : Type 0} → Kinds → Option A → Option A
unless [] rest = rest
unless (k ∷ ks) rest = None

-- the rows of a command's arguments, where the words are not refused on the way
unfoldable pub clap_rows : Shape → Walk → List Text → Option (List Row)
clap_rows s w words =
    let end = (fold (walked s.rules []) w words).held in
    unless (or_else (walk_fault s [] w words) (settle_fault s.rules false end)) (Some (settled s.rules end).rows)

pub unless_both : {A : Type 0} (f g : Kinds) (rest : Option A) → unless (or_else f g) rest ≡ unless f (unless g rest)
unless_both [] g rest = refl
unless_both (k ∷ ks) g rest = refl

pub or_else_assoc : (f g h : Kinds) → or_else (or_else f g) h ≡ or_else f (or_else g h)
or_else_assoc [] g h = refl
or_else_assoc (k ∷ ks) g h = refl

pub step : (s : Shape) (w : Walk) (word : Text) (rest : List Text)
    → clap_rows s w (word ∷ rest) ≡ unless (turn_fault s [] w word) (clap_rows s (walked s.rules [] w word) rest)
unfolding clap_rows walk_fault
step s w word rest = rw or_else_assoc (unless_both (turn_fault s [] w word) _ _)

pub or_else_nil : (f : Kinds) → or_else f [] ≡ f
or_else_nil [] = refl
or_else_nil (k ∷ ks) = refl

-- ---- what is asked of the arguments

abbrev pub repeat : List Row → Text → Kinds
repeat rows n = if has_row n rows then kind.ArgumentConflict ∷ [] else []

-- an argument that takes one value, whatever it is
pub record IsValued (c : List Rule) (n : Text) (a : Rule) : Type 0 where
  pub id : a.id ≡ n
  pub by_id : arg_by_id c n ≡ Some a
  pub takes : takes_values a ≡ true
  pub several : takes_several a ≡ false
  pub multiple : is_multiple a ≡ false
  pub most : most_values a ≡ 1
  pub trailing : a.trailing_var_arg ≡ false
  pub none : (rows : List Row) → use_fault false a [] rows ≡ kind.InvalidValue ∷ []
  pub one : (v : Text) (rows : List Row) → use_fault false a (v ∷ []) rows ≡ repeat rows n
  pub adds : (v : Text) (rows : List Row) → has_row n rows ≡ false → used a (v ∷ []) rows ≡ rows ++ row (n, v) ∷ []

-- an argument that takes none
pub record IsFlag (n : Text) (a : Rule) : Type 0 where
  pub takes : takes_values a ≡ false
  pub one : (rows : List Row) → use_fault false a [] rows ≡ repeat rows n
  pub adds : (rows : List Row) → has_row n rows ≡ false → used a [] rows ≡ rows ++ row (n, codes "true") ∷ []

-- from position p on the positionals are these places
abbrev pub Places : List Rule → ℕ → List Text → Type 0
Places c p [] = arg_by_index c p ≡ None
Places c p (n ∷ left) = (a : Rule) × (arg_by_index c p ≡ Some a) × IsValued c n a × Places c (min (p + 1) usize_max) left

pub record Fits (c : List Rule) (form : Form) : Type 0 where
  pub no_short : (x : ℕ) → arg_by_short c x ≡ None
  pub is_option : (n : Text) → is_among n form.options ≡ true → (a : Rule) × (arg_by_long c n ≡ Some a) × IsValued c n a
  pub is_flag : (n : Text) → is_among n form.options ≡ false → is_among n form.flags ≡ true → (a : Rule) × (arg_by_long c n ≡ Some a) × IsFlag n a
  pub is_unknown : (n : Text) → is_among n form.options ≡ false → is_among n form.flags ≡ false → arg_by_long c n ≡ None
  pub from_first : Places c 1 form.places

-- a word that is not `--`, whose short flags are text
pub record IsWord (word : Text) : Type 0 where
  pub dashes : bytes_eq word (codes "--") ≡ false
  pub spells : (flags : Text) → short_of word ≡ Some flags → (x : ℕ) × (slice_get (chars flags) 0 ≡ Some x)

abbrev pub AreWords : List Text → Type 0
AreWords [] = Unit {0}
AreWords (word ∷ rest) = IsWord word × AreWords rest

-- ---- uses and rows

-- the rows after these uses, where none is used twice
abbrev pub react : List Row → List Use → Option (List Row)
react rows [] = Some rows
react rows (u ∷ us) = unless (repeat rows u.0) (react (rows ++ row u ∷ []) us)

abbrev held : Option Use → Option (Text × List Text)
held None = None
held (Some u) = Some (u.0, u.1 ∷ [])

abbrev front : Option Use → List Use → List Use
front None us = us
front (Some u) us = u ∷ us

abbrev twice : List Row → Option Use → Kinds
twice rows None = []
twice rows (Some u) = repeat rows u.0

abbrev after : List Row → Option Use → List Row
after rows None = rows
after rows (Some u) = rows ++ row u ∷ []

abbrev Known : List Rule → Option Use → Type 0
Known c None = Unit {0}
Known c (Some u) = (a : Rule) × IsValued c u.0 a

fresh : (rows : List Row) (n : Text) → repeat rows n ≡ [] → has_row n rows ≡ false
fresh rows n e = go (has_row n rows) e
  where
    go : (b : Bool) → (if b then kind.ArgumentConflict ∷ [] else []) ≡ [] → b ≡ false
    go true e = search rules
    go false e = refl

settles : (c : List Rule) (rows : List Row) (pend : Option Use) → Known c pend → settle_fault c false (holding rows (held pend)) ≡ twice rows pend
settles c rows None k = refl
settles c rows (Some u) k = rw k.1.by_id (k.1.one u.1 rows)

settled_is : (c : List Rule) (rows : List Row) (pend : Option Use) → Known c pend → twice rows pend ≡ []
    → settled c (holding rows (held pend)) ≡ holding (after rows pend) None
settled_is c rows None k e = refl
settled_is c rows (Some u) k e = rw k.1.by_id (ap (λ rs. holding rs None) (k.1.adds u.1 rows (fresh rows u.0 e)))

react_front : (rows : List Row) (pend : Option Use) (us : List Use) → react rows (front pend us) ≡ unless (twice rows pend) (react (after rows pend) us)
react_front rows None us = refl
react_front rows (Some u) us = refl

under : {A : Type 0} (f : Kinds) (a b : Option A) → (f ≡ [] → a ≡ b) → unless f a ≡ unless f b
under [] a b h = h refl
under (k ∷ ks) a b h = refl

abbrev none : {A : Type 0} → Option A
none = None

no_more : {A : Type 0} (f g : Kinds) → unless f (unless g (none {A = A})) ≡ none {A = A}
no_more [] [] = refl
no_more [] (k ∷ ks) = refl
no_more (k ∷ ks) g = refl

puts : (g : List Use → Option (List Row)) (u : Use) (x : Option (List Use)) → option_and_then g (with_use u x) ≡ option_and_then (λ us. g (u ∷ us)) x
puts g u None = refl
puts g u (Some us) = refl

pub some≢none : {X : Type 0} (x : X) → Some x ≡ None → ⊥
some≢none x e = true≢false (ap (λ o. is_some o) e)

same_text : (n : Text) → bytes_eq n n ≡ true
same_text n = (bytes_eq-Decides n n).1 refl

-- ---- one word

module _ (name : Text) (c : List Rule) (form : Form) (fits : Fits c form) where
  abbrev s : Shape
  s = leaf name c

  -- a word of short flags is refused wherever it stands
  pub short_by : (flags : Text) (h : Held) (x : ℕ) → slice_get (chars flags) 0 ≡ Some x → flags_fault c false (length flags) flags 0 h ≡ kind.UnknownArgument ∷ []
  unfolding flags_fault
  short_by [] h x e =
      let none : slice_get (chars []) 0 ≡ None = rw chars-nil refl in
      absurd (some≢none x (sym e ∙ none))
  short_by (y ∷ ys) h x e = rw (e, fits.no_short x) refl

  short_idle : (word flags : Text) (rows : List Row) (pending : Option (Text × List Text)) (p : ℕ) → IsWord word → long_of word ≡ None
      → short_of word ≡ Some flags → (rest : Option (List Row)) → unless (turn_fault s [] (at rows pending idle p) word) rest ≡ None
  short_idle word flags rows pending p w e f rest =
      let first = w.spells flags f in
      rw (w.dashes, e, f, short_by flags (holding rows pending) first.0 first.1) refl

  short_waits : (n word flags : Text) (rows : List Row) (pending : Option (Text × List Text)) (p : ℕ) → IsWord word → long_of word ≡ None
      → short_of word ≡ Some flags → (rest : Option (List Row)) → unless (turn_fault s [] (at rows pending (option n) p) word) rest ≡ None
  short_waits n word flags rows pending p w e f rest =
      let first = w.spells flags f in
      rw (w.dashes, e, f, short_by flags (holding rows pending) first.0 first.1) refl

  -- `--name=value`
  value_turn : (n v word : Text) (rows : List Row) (pend : Option Use) (p : ℕ) (a : Rule) → IsWord word → long_of word ≡ Some (n, Some v) → arg_by_long c n ≡ Some a → IsValued c n a
      → Known c pend → turn_fault s [] (at rows (held pend) idle p) word ≡ or_else (twice rows pend) (use_fault false a (v ∷ []) (settled c (holding rows (held pend))).rows)
  value_turn n v word rows pend p a w e f is k = rw (w.dashes, e, f, is.takes, settles c rows pend k) (or_else_nil _)

  value_walked : (n v word : Text) (rows : List Row) (pend : Option Use) (p : ℕ) (a : Rule) → IsWord word → long_of word ≡ Some (n, Some v) → arg_by_long c n ≡ Some a → IsValued c n a
      → Known c pend → twice rows pend ≡ [] → repeat (after rows pend) n ≡ []
      → walked c [] (at rows (held pend) idle p) word ≡ at (after rows pend ++ row (n, v) ∷ []) None idle p
  unfolding walked
  value_walked n v word rows pend p a w e f is k once new =
      let h = settled_is c rows pend k once in
      rw (w.dashes, e, f, is.takes) (ap (λ rs. at rs None idle p)
      (ap (λ (g : Held). used a (v ∷ []) g.rows) h ∙ is.adds v (after rows pend) (fresh (after rows pend) n new)))

  -- `--name`, which waits for its value
  name_turn : (n word : Text) (rows : List Row) (pend : Option Use) (p : ℕ) (a : Rule) → IsWord word → long_of word ≡ Some (n, None) → arg_by_long c n ≡ Some a → IsValued c n a
      → Known c pend → turn_fault s [] (at rows (held pend) idle p) word ≡ twice rows pend
  name_turn n word rows pend p a w e f is k = rw (w.dashes, e, f, is.takes, settles c rows pend k) (or_else_nil _)

  name_walked : (n word : Text) (rows : List Row) (pend : Option Use) (p : ℕ) (a : Rule) → IsWord word → long_of word ≡ Some (n, None) → arg_by_long c n ≡ Some a → IsValued c n a
      → Known c pend → twice rows pend ≡ [] → walked c [] (at rows (held pend) idle p) word ≡ at (after rows pend) (Some (n, [])) (option n) p
  unfolding walked
  name_walked n word rows pend p a w e f is k once =
      rw (w.dashes, e, f, is.takes) (ap₂ (λ (id : Text) (g : Held). at g.rows (Some (id, [])) (option id) p) is.id (settled_is c rows pend k once))

  -- a flag
  flag_turn : (n word : Text) (rows : List Row) (pend : Option Use) (p : ℕ) (a : Rule) → IsWord word → long_of word ≡ Some (n, None) → arg_by_long c n ≡ Some a → IsFlag n a
      → Known c pend → turn_fault s [] (at rows (held pend) idle p) word ≡ or_else (twice rows pend) (use_fault false a [] (settled c (holding rows (held pend))).rows)
  flag_turn n word rows pend p a w e f is k = rw (w.dashes, e, f, is.takes, settles c rows pend k) (or_else_nil _)

  flag_walked : (n word : Text) (rows : List Row) (pend : Option Use) (p : ℕ) (a : Rule) → IsWord word → long_of word ≡ Some (n, None) → arg_by_long c n ≡ Some a → IsFlag n a
      → Known c pend → twice rows pend ≡ [] → repeat (after rows pend) n ≡ []
      → walked c [] (at rows (held pend) idle p) word ≡ at (after rows pend ++ row (n, codes "true") ∷ []) None idle p
  unfolding walked
  flag_walked n word rows pend p a w e f is k once new =
      let h = settled_is c rows pend k once in
      rw (w.dashes, e, f, is.takes) (ap (λ rs. at rs None idle p)
      (ap (λ (g : Held). used a [] g.rows) h ∙ is.adds (after rows pend) (fresh (after rows pend) n new)))

  -- a flag with a value, and a name that is none of them
  valued_flag : (n v word : Text) (rows : List Row) (pending : Option (Text × List Text)) (p : ℕ) (a : Rule) → IsWord word → long_of word ≡ Some (n, Some v) → arg_by_long c n ≡ Some a → IsFlag n a
      → (rest : Option (List Row)) → unless (turn_fault s [] (at rows pending idle p) word) rest ≡ None
  valued_flag n v word rows pending p a w e f is rest = rw (w.dashes, e, f, is.takes) refl

  unknown : (n word : Text) (v : Option Text) (rows : List Row) (pending : Option (Text × List Text)) (p : ℕ) → IsWord word → long_of word ≡ Some (n, v) → arg_by_long c n ≡ None
      → (rest : Option (List Row)) → unless (turn_fault s [] (at rows pending idle p) word) rest ≡ None
  unknown n word v rows pending p w e f rest = rw (w.dashes, e, f) refl

  -- a word for a place
  no_place : (word : Text) (rows : List Row) (pending : Option (Text × List Text)) (p : ℕ) → IsWord word → long_of word ≡ None → short_of word ≡ None → arg_by_index c p ≡ None
      → (rest : Option (List Row)) → unless (turn_fault s [] (at rows pending idle p) word) rest ≡ None
  no_place word rows pending p w e f none rest = rw (w.dashes, e, f, none) refl

  place_turn : (n word : Text) (rows : List Row) (pend : Option Use) (p : ℕ) (a : Rule) → IsWord word → long_of word ≡ None → short_of word ≡ None → arg_by_index c p ≡ Some a → IsValued c n a
      → Known c pend → turn_fault s [] (at rows (held pend) idle p) word ≡ twice rows pend
  place_turn n word rows pend p a w e f here is k = rw (w.dashes, e, f, here, is.several, and_right _ false refl, settles c rows pend k) refl

  place_walked : (n word : Text) (rows : List Row) (pend : Option Use) (p : ℕ) (a : Rule) → IsWord word → long_of word ≡ None → short_of word ≡ None → arg_by_index c p ≡ Some a → IsValued c n a
      → Known c pend → twice rows pend ≡ [] → walked c [] (at rows (held pend) idle p) word ≡ at (after rows pend) (Some (n, word ∷ [])) idle (min (p + 1) usize_max)
  unfolding walked
  place_walked n word rows pend p a w e f here is k once =
      rw (w.dashes, e, f, here, is.multiple, is.several, and_right _ false refl, is.trailing)
      (ap₂ (λ (id : Text) (g : Held). at g.rows (Some (id, word ∷ [])) idle (min (p + 1) usize_max)) is.id (settled_is c rows pend k once))

  -- a word while an option waits for its value
  module _ (n : Text) (a : Rule) (is : IsValued c n a) (rows : List Row) where
    abbrev bare : Held
    bare = holding rows (Some (n, []))

    lacks : settle_fault c false bare ≡ kind.InvalidValue ∷ []
    lacks = rw is.by_id (is.none rows)

    lacking : (takes : Bool) (b : Rule) (v : Option Text) (more : Kinds) (rest : Option (List Row))
        → unless (or_else (if takes then option_fault c false b v bare else (if is_some v then kind.TooManyValues ∷ [] else react_fault c false b [] bare)) more) rest ≡ None
    lacking true b (Some x) more rest = rw lacks refl
    lacking true b None more rest = rw lacks refl
    lacking false b (Some x) more rest = refl
    lacking false b None more rest = rw lacks refl

    lacking_by : (o : Option Rule) (v : Option Text) (more : Kinds) (rest : Option (List Row)) → unless (or_else (long_fault c false o v bare) more) rest ≡ None
    lacking_by None v more rest = refl
    lacking_by (Some b) v more rest = lacking (takes_values b) b v more rest

    value_missing : (m word : Text) (v : Option Text) (p : ℕ) → IsWord word → long_of word ≡ Some (m, v)
        → (rest : Option (List Row)) → unless (turn_fault s [] (at rows (Some (n, [])) (option n) p) word) rest ≡ None
    value_missing m word v p w e rest = rw (w.dashes, e) (lacking_by (arg_by_long c m) v _ rest)

  waits_turn : (n word : Text) (rows : List Row) (p : ℕ) (a : Rule) → IsWord word → long_of word ≡ None → short_of word ≡ None → IsValued c n a
      → turn_fault s [] (at rows (Some (n, [])) (option n) p) word ≡ []
  waits_turn n word rows p a w e f is = rw (w.dashes, e, f) refl

  waits_walked : (n word : Text) (rows : List Row) (p : ℕ) (a : Rule) → IsWord word → long_of word ≡ None → short_of word ≡ None → IsValued c n a
      → walked c [] (at rows (Some (n, [])) (option n) p) word ≡ at rows (Some (n, word ∷ [])) idle p
  unfolding walked
  waits_walked n word rows p a w e f is = rw (w.dashes, e, f, is.by_id, is.id, same_text n, is.most) refl

  -- ---- all the words

  abbrev reads_idle : List Text → Type 0
  reads_idle words = (rows : List Row) (pend : Option Use) (places : List Text) (p : ℕ) → Known c pend → Places c p places
      → clap_rows s (at rows (held pend) idle p) words ≡ option_and_then (λ us. react rows (front pend us)) (uses_from form places None words)

  abbrev reads_waiting : List Text → Type 0
  reads_waiting words = (rows : List Row) (n : Text) (a : Rule) (places : List Text) (p : ℕ) → IsValued c n a → Places c p places
      → clap_rows s (at rows (Some (n, [])) (option n) p) words ≡ option_and_then (react rows) (uses_from form places (Some n) words)

  none_left : reads_idle []
  unfolding clap_rows walk_fault
  none_left rows None places p k left = refl
  none_left rows (Some u) places p k left =
      rw (settles c rows (Some u) k) (under (repeat rows u.0) _ _ (λ once. ap (λ (h : Held). Some h.rows) (settled_is c rows (Some u) k once)))

  none_waiting : reads_waiting []
  unfolding clap_rows walk_fault
  none_waiting rows n a places p is left = rw (is.by_id, is.none rows) refl

  -- the uses behind what is pending and one more
  behind : (rows : List Row) (pend : Option Use) (u : Use) (x : Option (List Use)) → option_and_then (λ us. react rows (front pend us)) (with_use u x)
      ≡ unless (twice rows pend) (unless (repeat (after rows pend) u.0) (option_and_then (react (after rows pend ++ row u ∷ [])) x))
  behind rows pend u None = sym (no_more (twice rows pend) (repeat (after rows pend) u.0))
  behind rows pend u (Some us) = react_front rows pend (u ∷ us)

  word_value : (word : Text) (rest : List Text) (rows : List Row) (pend : Option Use) (n v : Text) (a : Rule) (places : List Text) (p : ℕ) → reads_idle rest → IsWord word
      → long_of word ≡ Some (n, Some v) → arg_by_long c n ≡ Some a → IsValued c n a → Known c pend → Places c p places
      → clap_rows s (at rows (held pend) idle p) (word ∷ rest) ≡ option_and_then (λ us. react rows (front pend us)) (with_use (n, v) (uses_from form places None rest))
  word_value word rest rows pend n v a places p later w e f is k left =
      step s (at rows (held pend) idle p) word rest
      ∙ ap (λ t. unless t (clap_rows s (walked c [] (at rows (held pend) idle p) word) rest)) (value_turn n v word rows pend p a w e f is k)
      ∙ unless_both (twice rows pend) _ _
      ∙ under (twice rows pend) _ _ (λ once.
      ap (λ t. unless t (clap_rows s (walked c [] (at rows (held pend) idle p) word) rest))
      (ap (λ (h : Held). use_fault false a (v ∷ []) h.rows) (settled_is c rows pend k once) ∙ is.one v (after rows pend))
      ∙ under (repeat (after rows pend) n) _ _ (λ new.
      ap (λ x. clap_rows s x rest) (value_walked n v word rows pend p a w e f is k once new)
      ∙ later (after rows pend ++ row (n, v) ∷ []) None places p tt left))
      ∙ sym (behind rows pend (n, v) (uses_from form places None rest))

  word_flag : (word : Text) (rest : List Text) (rows : List Row) (pend : Option Use) (n : Text) (a : Rule) (places : List Text) (p : ℕ) → reads_idle rest → IsWord word
      → long_of word ≡ Some (n, None) → arg_by_long c n ≡ Some a → IsFlag n a → Known c pend → Places c p places
      → clap_rows s (at rows (held pend) idle p) (word ∷ rest) ≡ option_and_then (λ us. react rows (front pend us)) (with_use (n, codes "true") (uses_from form places None rest))
  word_flag word rest rows pend n a places p later w e f is k left =
      step s (at rows (held pend) idle p) word rest
      ∙ ap (λ t. unless t (clap_rows s (walked c [] (at rows (held pend) idle p) word) rest)) (flag_turn n word rows pend p a w e f is k)
      ∙ unless_both (twice rows pend) _ _
      ∙ under (twice rows pend) _ _ (λ once.
      ap (λ t. unless t (clap_rows s (walked c [] (at rows (held pend) idle p) word) rest))
      (ap (λ (h : Held). use_fault false a [] h.rows) (settled_is c rows pend k once) ∙ is.one (after rows pend))
      ∙ under (repeat (after rows pend) n) _ _ (λ new.
      ap (λ x. clap_rows s x rest) (flag_walked n word rows pend p a w e f is k once new)
      ∙ later (after rows pend ++ row (n, codes "true") ∷ []) None places p tt left))
      ∙ sym (behind rows pend (n, codes "true") (uses_from form places None rest))

  -- what is pending is used, and the rest goes on from there
  fronted : (rows : List Row) (pend : Option Use) (x : Option (List Use)) → option_and_then (λ us. react rows (front pend us)) x ≡ unless (twice rows pend) (option_and_then (react (after rows pend)) x)
  fronted rows pend None = sym (no_more [] (twice rows pend))
  fronted rows pend (Some us) = react_front rows pend us

  word_name : (word : Text) (rest : List Text) (rows : List Row) (pend : Option Use) (n : Text) (a : Rule) (places : List Text) (p : ℕ) → reads_waiting rest → IsWord word
      → long_of word ≡ Some (n, None) → arg_by_long c n ≡ Some a → IsValued c n a → Known c pend → Places c p places
      → clap_rows s (at rows (held pend) idle p) (word ∷ rest) ≡ option_and_then (λ us. react rows (front pend us)) (uses_from form places (Some n) rest)
  word_name word rest rows pend n a places p later w e f is k left =
      step s (at rows (held pend) idle p) word rest
      ∙ ap (λ t. unless t (clap_rows s (walked c [] (at rows (held pend) idle p) word) rest)) (name_turn n word rows pend p a w e f is k)
      ∙ under (twice rows pend) _ _ (λ once. ap (λ x. clap_rows s x rest) (name_walked n word rows pend p a w e f is k once) ∙ later (after rows pend) n a places p is left)
      ∙ sym (fronted rows pend (uses_from form places (Some n) rest))

  word_place : (word : Text) (rest : List Text) (rows : List Row) (pend : Option Use) (n : Text) (a : Rule) (places : List Text) (p : ℕ) → reads_idle rest → IsWord word
      → long_of word ≡ None → short_of word ≡ None → arg_by_index c p ≡ Some a → IsValued c n a → Known c pend → Places c (min (p + 1) usize_max) places
      → clap_rows s (at rows (held pend) idle p) (word ∷ rest) ≡ option_and_then (λ us. react rows (front pend us)) (with_use (n, word) (uses_from form places None rest))
  word_place word rest rows pend n a places p later w e f here is k left =
      step s (at rows (held pend) idle p) word rest
      ∙ ap (λ t. unless t (clap_rows s (walked c [] (at rows (held pend) idle p) word) rest)) (place_turn n word rows pend p a w e f here is k)
      ∙ under (twice rows pend) _ _ (λ once. ap (λ x. clap_rows s x rest) (place_walked n word rows pend p a w e f here is k once)
      ∙ later (after rows pend) (Some (n, word)) places (min (p + 1) usize_max) (a, is) left)
      ∙ sym (behind_place rows pend (n, word) (uses_from form places None rest))
    where
      behind_place : (rows : List Row) (pend : Option Use) (u : Use) (x : Option (List Use)) → option_and_then (λ us. react rows (front pend us)) (with_use u x)
          ≡ unless (twice rows pend) (option_and_then (λ us. react (after rows pend) (u ∷ us)) x)
      behind_place rows pend u None = sym (no_more [] (twice rows pend))
      behind_place rows pend u (Some us) = react_front rows pend (u ∷ us)

  -- a word while an option waits for its value
  word_waited : (word : Text) (rest : List Text) (rows : List Row) (n : Text) (a : Rule) (places : List Text) (p : ℕ) → reads_idle rest → IsWord word
      → long_of word ≡ None → short_of word ≡ None → IsValued c n a → Places c p places
      → clap_rows s (at rows (Some (n, [])) (option n) p) (word ∷ rest) ≡ option_and_then (react rows) (with_use (n, word) (uses_from form places None rest))
  word_waited word rest rows n a places p later w e f is left =
      step s (at rows (Some (n, [])) (option n) p) word rest
      ∙ ap₂ (λ t x. unless t (clap_rows s x rest)) (waits_turn n word rows p a w e f is) (waits_walked n word rows p a w e f is)
      ∙ later rows (Some (n, word)) places p (a, is) left
      ∙ sym (puts (react rows) (n, word) (uses_from form places None rest))

  -- a word where nothing waits for a value
  by_option : (n v word : Text) (rest : List Text) (rows : List Row) (pend : Option Use) (places : List Text) (p : ℕ) (b : Bool) → is_among n form.options ≡ b → reads_idle rest → IsWord word
      → long_of word ≡ Some (n, Some v) → Known c pend → Places c p places
      → clap_rows s (at rows (held pend) idle p) (word ∷ rest) ≡ option_and_then (λ us. react rows (front pend us)) (if b then with_use (n, v) (uses_from form places None rest) else None)
  by_option n v word rest rows pend places p true among later w e k left =
      let found = fits.is_option n among in
      word_value word rest rows pend n v found.0 places p later w e found.1 found.2 k left
  by_option n v word rest rows pend places p false among later w e k left = step s (at rows (held pend) idle p) word rest ∙ refused (is_among n form.flags) refl
    where
      refused : (b : Bool) → is_among n form.flags ≡ b → unless (turn_fault s [] (at rows (held pend) idle p) word) (clap_rows s (walked c [] (at rows (held pend) idle p) word) rest) ≡ None
      refused true flag = let found = fits.is_flag n among flag in valued_flag n v word rows (held pend) p found.0 w e found.1 found.2 _
      refused false flag = unknown n word (Some v) rows (held pend) p w e (fits.is_unknown n among flag) _

  by_name : (n word : Text) (rest : List Text) (rows : List Row) (pend : Option Use) (places : List Text) (p : ℕ) (b d : Bool) → is_among n form.options ≡ b → is_among n form.flags ≡ d
      → reads_idle rest → reads_waiting rest → IsWord word → long_of word ≡ Some (n, None) → Known c pend → Places c p places
      → clap_rows s (at rows (held pend) idle p) (word ∷ rest) ≡ option_and_then (λ us. react rows (front pend us))
      (if b then uses_from form places (Some n) rest else (if d then with_use (n, codes "true") (uses_from form places None rest) else None))
  by_name n word rest rows pend places p true d among flag later waiting w e k left =
      let found = fits.is_option n among in word_name word rest rows pend n found.0 places p waiting w e found.1 found.2 k left
  by_name n word rest rows pend places p false true among flag later waiting w e k left =
      let found = fits.is_flag n among flag in word_flag word rest rows pend n found.0 places p later w e found.1 found.2 k left
  by_name n word rest rows pend places p false false among flag later waiting w e k left =
      step s (at rows (held pend) idle p) word rest ∙ unknown n word None rows (held pend) p w e (fits.is_unknown n among flag) _

  by_place : (word : Text) (rest : List Text) (rows : List Row) (pend : Option Use) (places : List Text) (p : ℕ) → reads_idle rest → IsWord word → long_of word ≡ None → short_of word ≡ None
      → Known c pend → Places c p places
      → clap_rows s (at rows (held pend) idle p) (word ∷ rest) ≡ option_and_then (λ us. react rows (front pend us)) (placed places word (λ left waiting. uses_from form left waiting rest))
  by_place word rest rows pend [] p later w e f k left = step s (at rows (held pend) idle p) word rest ∙ no_place word rows (held pend) p w e f left _
  by_place word rest rows pend (n ∷ places) p later w e f k left = word_place word rest rows pend n left.0 places p later w e f left.1 left.2 k left.3

  by_short : (word : Text) (rest : List Text) (rows : List Row) (pend : Option Use) (places : List Text) (p : ℕ) (o : Option Text) → short_of word ≡ o → reads_idle rest → IsWord word → long_of word ≡ None
      → Known c pend → Places c p places
      → clap_rows s (at rows (held pend) idle p) (word ∷ rest) ≡ option_and_then (λ us. react rows (front pend us))
      (if is_some o then None else placed places word (λ left waiting. uses_from form left waiting rest))
  by_short word rest rows pend places p None f later w e k left = by_place word rest rows pend places p later w e f k left
  by_short word rest rows pend places p (Some flags) f later w e k left = step s (at rows (held pend) idle p) word rest ∙ short_idle word flags rows (held pend) p w e f _

  by_long : (word : Text) (rest : List Text) (rows : List Row) (pend : Option Use) (places : List Text) (p : ℕ) (o : Option (Text × Option Text)) → long_of word ≡ o → reads_idle rest → reads_waiting rest
      → IsWord word → Known c pend → Places c p places
      → clap_rows s (at rows (held pend) idle p) (word ∷ rest) ≡ option_and_then (λ us. react rows (front pend us)) (told form places word o (λ left waiting. uses_from form left waiting rest))
  by_long word rest rows pend places p None e later waiting w k left = by_short word rest rows pend places p (short_of word) refl later w e k left
  by_long word rest rows pend places p (Some (n, Some v)) e later waiting w k left = by_option n v word rest rows pend places p (is_among n form.options) refl later w e k left
  by_long word rest rows pend places p (Some (n, None)) e later waiting w k left =
      by_name n word rest rows pend places p (is_among n form.options) (is_among n form.flags) refl refl later waiting w e k left

  -- a word where an option waits for its value
  waited_long : (word : Text) (rest : List Text) (rows : List Row) (n : Text) (a : Rule) (places : List Text) (p : ℕ) (o : Option (Text × Option Text)) (f : Option Text) → long_of word ≡ o → short_of word ≡ f
      → reads_idle rest → IsWord word → IsValued c n a → Places c p places
      → clap_rows s (at rows (Some (n, [])) (option n) p) (word ∷ rest) ≡ option_and_then (react rows) (if is_some o || is_some f then None else with_use (n, word) (uses_from form places None rest))
  waited_long word rest rows n a places p None None e f later w is left = word_waited word rest rows n a places p later w e f is left
  waited_long word rest rows n a places p None (Some flags) e f later w is left = step s (at rows (Some (n, [])) (option n) p) word rest ∙ short_waits n word flags rows (Some (n, [])) p w e f _
  waited_long word rest rows n a places p (Some (m, v)) f e g later w is left = step s (at rows (Some (n, [])) (option n) p) word rest ∙ value_missing n a is rows m word v p w e _

  pub reads_all : (words : List Text) → AreWords words → reads_idle words × reads_waiting words
  reads_all [] w = (none_left, none_waiting)
  reads_all (word ∷ rest) w =
      let later = reads_all rest w.1 in (
        λ rows pend places p k left. by_long word rest rows pend places p (long_of word) refl later.0 later.1 w.0 k left,
        λ rows n a places p is left. waited_long word rest rows n a places p (long_of word) (short_of word) refl refl later.0 w.0 is left,
      )
