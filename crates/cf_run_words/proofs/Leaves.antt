-- The words after each command's name: what a parse finds in them are their uses, each name at most
-- once.
use Rattle.std.proofs.Common.{◌≡◌, ◌∙◌, ◌&&◌, ◌||◌, Bool, true≢false, if◌then◌else◌, true, false, not, refl, sym, ap, List, [], ◌∷◌, ◌++◌, map, Option, Some, None, option_map, option_and_then, fold, append_assoc, append-nil, bytes_eq}
use Rattle.cf_base.proofs.Common.{map-append}
use Rattle.clap.specs.Walk.{Held, Row, Rule, at_row, has_row, more_values, nothing_held, rows_after, settled, walk, walk_from, with_default, with_values, without}
use Rattle.clap.specs.Simple.{Shape}
use Rattle.clap.specs.Faults.{check_fault, defaults_fault, level_fault, settle_fault, walk_fault}
use Rattle.clap.specs.Kinds.{Kinds, or_else}
use Rattle.clap.specs.declared.builder.value_parser.Reading.TheVariants.{AsWritten}
use Rattle.clap.specs.declared.error.kind.ErrorKind.TheVariants as kind
use Rattle.clap.specs.declared.parser.matches.ValueSource.TheVariants.{CommandLine}
use Rattle.cf_run_words.specs.Forms.{Text, Use, Form, is_once, is_used, once, uses_from, uses_of}
use Rattle.cf_run_words.proofs.Leaf.{AreWords, Fits, clap_rows, leaf, react, reads_all, row, unless, or_else_nil}

-- ---- rows that are not there

pub added : (id : Text) (change : Row → List Row) (missing rows : List Row) → has_row id rows ≡ false → at_row id change missing rows ≡ rows ++ missing
added id change missing [] e = refl
added id change missing (r ∷ rs) e = go (bytes_eq r.id id) refl e (added id change missing rs)
  where
    go : (b : Bool) → bytes_eq r.id id ≡ b → (b || has_row id rs) ≡ false → (has_row id rs ≡ false → at_row id change missing rs ≡ rs ++ missing)
        → at_row id change missing (r ∷ rs) ≡ (r ∷ rs) ++ missing
    go true is h later = absurd (true≢false h)
    go false is h later = rw is (ap (λ xs. r ∷ xs) (later h))

pub used_fresh : (n : Text) (values : List Text) (rows : List Row) → has_row n rows ≡ false
    → with_values n AsWritten CommandLine values (without n rows) ≡ rows ++ record { id = n; values = values; count = None; source = Some CommandLine; reading = AsWritten } ∷ []
used_fresh n values rows e =
    let same : without n rows ≡ rows = added n (λ _. []) [] rows e ∙ append-nil rows in
    rw same (added n (more_values CommandLine values) _ rows e)

pub once_only : (b : Bool) (k : Kinds) → or_else (if b && true then k else []) [] ≡ (if b then k else [])
once_only true k = or_else_nil k
once_only false k = refl

-- ---- rows of uses

has_row_of : (n : Text) (us : List Use) → has_row n (map row us) ≡ is_used n us
has_row_of n [] = refl
has_row_of n (u ∷ us) = ap (λ b. bytes_eq u.0 n || b) (has_row_of n us)

rows_once : (before us : List Use) → react (map row before) us ≡ (if is_once before us then Some (map row (before ++ us)) else None)
rows_once before [] = ap (λ l. Some (map row l)) (sym (append-nil before))
rows_once before (u ∷ us) =
    ap (λ b. unless (if b then kind.ArgumentConflict ∷ [] else []) (react (map row before ++ row u ∷ []) us)) (has_row_of u.0 before)
    ∙ go (is_used u.0 before)
    (ap (λ rs. react rs us) (sym (map-append row before (u ∷ []))) ∙ rows_once (before ++ u ∷ []) us
    ∙ ap (λ l. if is_once (before ++ u ∷ []) us then Some (map row l) else None) (append_assoc before (u ∷ []) us))
  where
    go : (b : Bool) → react (map row before ++ row u ∷ []) us ≡ (if is_once (before ++ u ∷ []) us then Some (map row (before ++ u ∷ us)) else None)
        → unless (if b then kind.ArgumentConflict ∷ [] else []) (react (map row before ++ row u ∷ []) us)
        ≡ (if not b && is_once (before ++ u ∷ []) us then Some (map row (before ++ u ∷ us)) else None)
    go true h = refl
    go false h = h

rows_of_uses : (x : Option (List Use)) → option_and_then (react []) x ≡ option_map (map row) (once x)
rows_of_uses None = refl
rows_of_uses (Some us) = rows_once [] us ∙ go (is_once [] us)
  where
    go : (b : Bool) → (if b then Some (map row us) else None) ≡ option_map (map row) (if b then Some us else None)
    go true = refl
    go false = refl

-- ---- a whole level

-- nothing is asked of a command's arguments after the walk
abbrev pub Quiet : Shape → Type 0
Quiet s = (rows : List Row) → or_else (defaults_fault rows s.rules) (check_fault s (fold with_default rows s.rules) false) ≡ []

-- the rows of a level, where the parse takes the words
abbrev pub level : Shape → List Text → Option (List Row)
level s words = unless (level_fault s [] nothing_held words false []) (Some (rows_after s.rules [] words))

module _ (n : Text) (c : List Rule) (form : Form) (fits : Fits c form) (quiet : Quiet (leaf n c)) where
  abbrev end : List Text → Held
  end words = (walk c [] nothing_held words).held

  walk_only : (words : List Text) → level_fault (leaf n c) [] nothing_held words false []
      ≡ or_else (walk_fault (leaf n c) [] (walk_from nothing_held) words) (settle_fault c false (end words))
  walk_only words = rw (quiet (settled c (end words)).rows) (ap (or_else (walk_fault (leaf n c) [] (walk_from nothing_held) words)) (or_else_nil (settle_fault c false (end words))))

  mapped : {A B : Type 0} (g : A → B) (f : Kinds) (x : A) → unless f (Some (g x)) ≡ option_map g (unless f (Some x))
  mapped g [] x = refl
  mapped g (k ∷ ks) x = refl

  pub level_is : (words : List Text) → AreWords words → level (leaf n c) words ≡ option_map (λ us. fold with_default (map row us) c) (uses_of form words)
  unfolding clap_rows
  level_is words are =
      ap (λ f. unless f (Some (rows_after c [] words))) (walk_only words)
      ∙ mapped (λ rows. fold with_default rows c) _ (settled c (end words)).rows
      ∙ ap (option_map (λ rows. fold with_default rows c))
      ((reads_all n c form fits words are).0 [] None form.places 1 tt fits.from_first ∙ rows_of_uses (uses_from form form.places None words))
      ∙ both_maps (uses_of form words)
    where
      both_maps : (x : Option (List Use)) → option_map (λ rows. fold with_default rows c) (option_map (map row) x) ≡ option_map (λ us. fold with_default (map row us) c) x
      both_maps None = refl
      both_maps (Some us) = refl
