-- The commands of the program, as a parse reads them.
use Rattle.std.proofs.Common.{◌≡◌, ◌||◌, ℕ, Bool, true≢false, if◌then◌else◌, true, false, refl, sym, subst, List, [], ◌∷◌, Some, codes, bytes_eq}
use Rattle.cf_base.proofs.Common.{or_parts, bytes_eq-Decides}
use Rattle.clap.specs.Walk.{Row, Rule, arg_by_id, arg_by_long, has_row}
use Rattle.clap.specs.Simple.{filled, filled_from, new_rule, with_index}
use Rattle.clap.specs.Faults.{default_fault, defaults_fault}
use Rattle.clap.specs.Kinds.{Kinds}
use Rattle.cf_run_words.specs.Forms.{Text, is_among}
use Rattle.cf_run_words.specs.CommandLine.{option_rule, flag_rule, serve_rules, report_rules, generate_rules, pool_rules, claim_rules, ship_rules}
use Rattle.cf_run_words.specs.Words.{bare_form, serve_form, report_form, generate_form, pool_form, claim_form, ship_form}
use Rattle.cf_run_words.proofs.Leaf.{Fits, IsFlag, IsValued, leaf}
use Rattle.cf_run_words.proofs.Leaves.{Quiet, once_only, used_fresh}

-- ---- names

-- what holds of each name holds of one that is among them
EachOf : (Text → Type 0) → List Text → Type 0
EachOf P [] = Unit {0}
EachOf P (n ∷ ns) = P n × EachOf P ns

among : (P : Text → Type 0) (names : List Text) (n : Text) → EachOf P names → is_among n names ≡ true → P n
unfolding EachOf
among P [] n all e = absurd (true≢false (sym e))
among P (m ∷ ms) n all e = go (bytes_eq m n) refl e (among P ms n all.1)
  where
    go : (b : Bool) → bytes_eq m n ≡ b → (b || is_among n ms) ≡ true → (is_among n ms ≡ true → P n) → P n
    go true is h later = subst P ((bytes_eq-Decides m n).0 is) all.0
    go false is h later = later h

-- ---- an option and a place, whatever its name

abbrev option_filled : Text → Rule
option_filled n = with_index 1 (filled (option_rule n))

abbrev place_filled : ℕ → Text → Rule
place_filled i n = with_index i (filled (new_rule n))

abbrev flag_filled : Text → Rule
flag_filled n = with_index 1 (filled (flag_rule n))

option_valued : (c : List Rule) (n : Text) → arg_by_id c n ≡ Some (option_filled n) → IsValued c n (option_filled n)
option_valued c n here = record {
  id = refl;
  by_id = here;
  takes = refl;
  several = refl;
  multiple = refl;
  most = refl;
  trailing = refl;
  none = λ rows. refl;
  one = λ v rows. once_only (has_row n rows) _;
  adds = λ v rows e. used_fresh n (v ∷ []) rows e;
}

place_valued : (c : List Rule) (i : ℕ) (n : Text) → arg_by_id c n ≡ Some (place_filled i n) → IsValued c n (place_filled i n)
place_valued c i n here = record {
  id = refl;
  by_id = here;
  takes = refl;
  several = refl;
  multiple = refl;
  most = refl;
  trailing = refl;
  none = λ rows. refl;
  one = λ v rows. once_only (has_row n rows) _;
  adds = λ v rows e. used_fresh n (v ∷ []) rows e;
}

abbrev IsOption : List Rule → Text → Type 0
IsOption c n = (a : Rule) × (arg_by_long c n ≡ Some a) × IsValued c n a

abbrev IsFlagOf : List Rule → Text → Type 0
IsFlagOf c n = (a : Rule) × (arg_by_long c n ≡ Some a) × IsFlag n a

option_of : (c : List Rule) (n : Text) → arg_by_long c n ≡ Some (option_filled n) → arg_by_id c n ≡ Some (option_filled n) → IsOption c n
option_of c n found here = (option_filled n, found, option_valued c n here)

flag_of : (c : List Rule) (n : Text) → arg_by_long c n ≡ Some (flag_filled n) → IsFlagOf c n
flag_of c n found = (
  flag_filled n,
  found,
  record {
    takes = refl;
    one = λ rows. once_only (has_row n rows) _;
    adds = λ rows e. used_fresh n (codes "true" ∷ []) rows e;
  },
)

-- their defaults, where they have any, pass
or_true : (b : Bool) → (b || true) ≡ true
or_true true = refl
or_true false = refl

option_quiet : (rows : List Row) (n : Text) → default_fault rows (option_filled n) ≡ []
option_quiet rows n = rw or_true refl

place_quiet : (rows : List Row) (i : ℕ) (n : Text) → default_fault rows (place_filled i n) ≡ []
place_quiet rows i n = rw or_true refl

abbrev none : Kinds
none = []

flag_quiet : (rows : List Row) (i : ℕ) (n : Text) → default_fault rows (with_index i (filled (flag_rule n))) ≡ []
flag_quiet rows i n = go (has_row n rows || false)
  where
    go : (b : Bool) → (if b then none else none) ≡ none
    go true = refl
    go false = refl

-- ---- `found`, `desk` and `follow`

pub bare_fits : Fits [] bare_form
bare_fits = record {
  no_short = λ x. refl;
  is_option = λ n e. absurd (true≢false (sym e));
  is_flag = λ n e f. absurd (true≢false (sym f));
  is_unknown = λ n e f. refl;
  from_first = refl;
}

-- ---- `serve`

abbrev pub serve : List Rule
serve = filled_from 1 serve_rules

pub serve_fits : Fits serve serve_form
unfolding EachOf
serve_fits = record {
  no_short = λ x. refl;
  is_option = λ n e. among (IsOption serve) serve_form.options n
      (option_of serve (codes "port") refl refl, (option_of serve (codes "doors") refl refl, (option_of serve (codes "links") refl refl, tt))) e;
  is_flag = λ n e f. absurd (true≢false (sym f));
  is_unknown = λ n e f.
      let port = or_parts (bytes_eq (codes "port") n) _ e in
      let doors = or_parts (bytes_eq (codes "doors") n) _ port.1 in
      let links = or_parts (bytes_eq (codes "links") n) _ doors.1 in
      rw (port.0, doors.0, links.0) refl;
  from_first = refl;
}

pub serve_quiet : (n : Text) → Quiet (leaf n serve)
unfolding defaults_fault
serve_quiet n rows = simp option_quiet

-- ---- `report`

abbrev pub report : List Rule
report = filled_from 1 report_rules

pub report_fits : Fits report report_form
unfolding EachOf
report_fits = record {
  no_short = λ x. refl;
  is_option = λ n e. absurd (true≢false (sym e));
  is_flag = λ n e f. among (IsFlagOf report) report_form.flags n (flag_of report (codes "csv") refl, tt) f;
  is_unknown = λ n e f. let csv = or_parts (bytes_eq (codes "csv") n) _ f in rw csv.0 refl;
  from_first = (
    place_filled 1 (codes "year"),
    refl,
    place_valued report 1 (codes "year") refl,
    (place_filled 2 (codes "kind"), refl, place_valued report 2 (codes "kind") refl, refl),
  );
}

pub report_quiet : (n : Text) → Quiet (leaf n report)
unfolding defaults_fault
report_quiet n rows = simp (place_quiet, flag_quiet)

-- ---- `generate`

abbrev pub generate : List Rule
generate = filled_from 1 generate_rules

pub generate_fits : Fits generate generate_form
generate_fits = record {
  no_short = λ x. refl;
  is_option = λ n e. absurd (true≢false (sym e));
  is_flag = λ n e f. absurd (true≢false (sym f));
  is_unknown = λ n e f. refl;
  from_first = (place_filled 1 (codes "n"), refl, place_valued generate 1 (codes "n") refl, refl);
}

pub generate_quiet : (n : Text) → Quiet (leaf n generate)
unfolding defaults_fault
generate_quiet n rows = simp place_quiet

-- ---- `pool`

abbrev pub pool : List Rule
pool = filled_from 1 pool_rules

pub pool_fits : Fits pool pool_form
pool_fits = record {
  no_short = λ x. refl;
  is_option = λ n e. absurd (true≢false (sym e));
  is_flag = λ n e f. absurd (true≢false (sym f));
  is_unknown = λ n e f. refl;
  from_first = (
    place_filled 1 (codes "month"),
    refl,
    place_valued pool 1 (codes "month") refl,
    (
      place_filled 2 (codes "amount"),
      refl,
      place_valued pool 2 (codes "amount") refl,
      (place_filled 3 (codes "desk"), refl, place_valued pool 3 (codes "desk") refl, refl),
    ),
  );
}

pub pool_quiet : (n : Text) → Quiet (leaf n pool)
unfolding defaults_fault
pool_quiet n rows = simp place_quiet

-- ---- `claim`

abbrev pub claim : List Rule
claim = filled_from 1 claim_rules

pub claim_fits : Fits claim claim_form
claim_fits = record {
  no_short = λ x. refl;
  is_option = λ n e. absurd (true≢false (sym e));
  is_flag = λ n e f. absurd (true≢false (sym f));
  is_unknown = λ n e f. refl;
  from_first = (
    place_filled 1 (codes "grant"),
    refl,
    place_valued claim 1 (codes "grant") refl,
    (
      place_filled 2 (codes "date"),
      refl,
      place_valued claim 2 (codes "date") refl,
      (place_filled 3 (codes "desk"), refl, place_valued claim 3 (codes "desk") refl, refl),
    ),
  );
}

pub claim_quiet : (n : Text) → Quiet (leaf n claim)
unfolding defaults_fault
claim_quiet n rows = simp place_quiet

-- ---- `ship`

abbrev pub ship : List Rule
ship = filled_from 1 ship_rules

pub ship_fits : Fits ship ship_form
ship_fits = record {
  no_short = λ x. refl;
  is_option = λ n e. absurd (true≢false (sym e));
  is_flag = λ n e f. absurd (true≢false (sym f));
  is_unknown = λ n e f. refl;
  from_first = (place_filled 1 (codes "from"), refl, place_valued ship 1 (codes "from") refl, refl);
}

pub ship_quiet : (n : Text) → Quiet (leaf n ship)
unfolding defaults_fault
ship_quiet n rows = simp place_quiet

pub bare_quiet : (n : Text) → Quiet (leaf n [])
unfolding defaults_fault
bare_quiet n rows = refl
