-- What the rows of a command tell: the values of its uses.
use Rattle.std.proofs.Common.{◌≡◌, ◌∙◌, ◌||◌, Bool, true≢false, if◌then◌else◌, true, false, refl, sym, ap, List, [], ◌∷◌, ◌++◌, map, Some, None, option_map, option_and_then, find, fold, codes, slice_get, bytes_eq}
use Rattle.clap.specs.Walk.{Row, at_row, first_of, has_row, more_values, with_default}
use Rattle.clap.specs.declared.builder.value_parser.Reading.TheVariants.{AsWritten}
use Rattle.clap.specs.declared.parser.matches.ValueSource.TheVariants.{DefaultValue}
use Rattle.cf_run_words.specs.Forms.{Text, Use, value_of}
use Rattle.cf_run_words.specs.Words.{serve_of, report_of, generate_of, pool_of, claim_of, ship_of, is_set}
use Rattle.cf_run_words.specs.Parsed.{serve_in, report_in, generate_in, pool_in, claim_in, ship_in}
use Rattle.cf_run_words.proofs.Leaf.{row}
use Rattle.cf_run_words.proofs.Leaves.{added}
use Rattle.cf_run_words.proofs.Commands.{serve, report, generate, pool, claim, ship}

value_read : (n : Text) (us : List Use) → first_of n (map row us) ≡ value_of n us
value_read n [] = refl
value_read n (u ∷ us) = go (bytes_eq u.0 n) (value_read n us)
  where
    go : (b : Bool) → first_of n (map row us) ≡ value_of n us
        → option_and_then (λ (r : Row). slice_get r.values 0) (if b then Some (row u) else find (λ r. bytes_eq r.id n) (map row us))
        ≡ option_map (λ (v : Use). v.1) (if b then Some u else find (λ v. bytes_eq v.0 n) us)
    go true e = refl
    go false e = e

same_rows : (b : Bool) (rows : List Row) → (if b then rows else rows) ≡ rows
same_rows true rows = refl
same_rows false rows = refl

-- ---- the commands that have no defaults

serve_rows : (rows : List Row) → fold with_default rows serve ≡ rows
serve_rows rows = simp same_rows

generate_rows : (rows : List Row) → fold with_default rows generate ≡ rows
generate_rows rows = simp same_rows

pool_rows : (rows : List Row) → fold with_default rows pool ≡ rows
pool_rows rows = simp same_rows

claim_rows : (rows : List Row) → fold with_default rows claim ≡ rows
claim_rows rows = simp same_rows

ship_rows : (rows : List Row) → fold with_default rows ship ≡ rows
ship_rows rows = simp same_rows

pub serve_read : (us : List Use) → serve_in (fold with_default (map row us) serve) ≡ serve_of us
serve_read us = simp (serve_rows, value_read)

pub generate_read : (us : List Use) → generate_in (fold with_default (map row us) generate) ≡ generate_of us
generate_read us = simp (generate_rows, value_read)

pub pool_read : (us : List Use) → pool_in (fold with_default (map row us) pool) ≡ pool_of us
pool_read us = simp (pool_rows, value_read)

pub claim_read : (us : List Use) → claim_in (fold with_default (map row us) claim) ≡ claim_of us
claim_read us = simp (claim_rows, value_read)

pub ship_read : (us : List Use) → ship_in (fold with_default (map row us) ship) ≡ ship_of us
ship_read us = simp (ship_rows, value_read)

-- ---- `report`, whose flag has one

abbrev unset : Row
unset = record { id = codes "csv"; values = codes "false" ∷ []; count = None; source = Some DefaultValue; reading = AsWritten }

abbrev with_unset : List Row → List Row
with_unset rows = if has_row (codes "csv") rows then rows else rows ++ unset ∷ []

report_rows : (rows : List Row) → fold with_default rows report ≡ with_unset rows
report_rows rows = simp same_rows (go (has_row (codes "csv") rows) refl)
  where
    go : (b : Bool) → has_row (codes "csv") rows ≡ b
        → (if b then rows else at_row (codes "csv") (more_values DefaultValue (codes "false" ∷ [])) (unset ∷ []) rows) ≡ (if b then rows else rows ++ unset ∷ [])
    go true e = refl
    go false e = added (codes "csv") (more_values DefaultValue (codes "false" ∷ [])) (unset ∷ []) rows e

first_before : (n : Text) (rows : List Row) → bytes_eq (codes "csv") n ≡ false → first_of n (rows ++ unset ∷ []) ≡ first_of n rows
first_before n [] e = rw e refl
first_before n (r ∷ rs) e = go (bytes_eq r.id n) (first_before n rs e)
  where
    go : (b : Bool) → first_of n (rs ++ unset ∷ []) ≡ first_of n rs
        → option_and_then (λ (x : Row). slice_get x.values 0) (if b then Some r else find (λ x. bytes_eq x.id n) (rs ++ unset ∷ []))
        ≡ option_and_then (λ (x : Row). slice_get x.values 0) (if b then Some r else find (λ x. bytes_eq x.id n) rs)
    go true h = refl
    go false h = h

other_read : (n : Text) (rows : List Row) → bytes_eq (codes "csv") n ≡ false → first_of n (with_unset rows) ≡ first_of n rows
other_read n rows e = go (has_row (codes "csv") rows)
  where
    go : (b : Bool) → first_of n (if b then rows else rows ++ unset ∷ []) ≡ first_of n rows
    go true = refl
    go false = first_before n rows e

-- with no row of the flag there is no value, and the default says `false`
flag_unset : (rows : List Row) → has_row (codes "csv") rows ≡ false
    → (first_of (codes "csv") rows ≡ None) × (first_of (codes "csv") (rows ++ unset ∷ []) ≡ Some (codes "false"))
flag_unset [] e = (refl, refl)
flag_unset (r ∷ rs) e = go (bytes_eq r.id (codes "csv")) refl e (flag_unset rs)
  where
    go : (b : Bool) → bytes_eq r.id (codes "csv") ≡ b → (b || has_row (codes "csv") rs) ≡ false
        → (has_row (codes "csv") rs ≡ false → (first_of (codes "csv") rs ≡ None) × (first_of (codes "csv") (rs ++ unset ∷ []) ≡ Some (codes "false")))
        → (first_of (codes "csv") (r ∷ rs) ≡ None) × (first_of (codes "csv") ((r ∷ rs) ++ unset ∷ []) ≡ Some (codes "false"))
    go true is h later = absurd (true≢false h)
    go false is h later = rw is (later h)

flag_read : (rows : List Row) → is_set (first_of (codes "csv") (with_unset rows)) ≡ is_set (first_of (codes "csv") rows)
flag_read rows = go (has_row (codes "csv") rows) refl
  where
    go : (b : Bool) → has_row (codes "csv") rows ≡ b → is_set (first_of (codes "csv") (if b then rows else rows ++ unset ∷ [])) ≡ is_set (first_of (codes "csv") rows)
    go true e = refl
    go false e = let both = flag_unset rows e in ap is_set both.1 ∙ sym (ap is_set both.0)

pub report_read : (us : List Use) → report_in (fold with_default (map row us) report) ≡ report_of us
report_read us =
    rw (report_rows, other_read (codes "year") (map row us) refl, other_read (codes "kind") (map row us) refl, flag_read (map row us))
    (simp value_read)
