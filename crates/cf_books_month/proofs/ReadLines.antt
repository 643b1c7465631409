-- Each control line of a chart that was read is of one department of it.
use Rattle.std.proofs.Common.{◌≡◌, ℕ, ◌≤◌, ◌+◌, Bool, true, false, not, if◌then◌else◌, ◌==◌, ◌||◌, nat_le, nat_lt, List, [], ◌∷◌, ◌++◌, length, Option, Some, None, option_and_then, Ok, Err, refl, sym, ap, subst, ◌∙◌, arith}
use Rattle.cf_base.proofs.Common.{AllByRecursion, list_all, list_any, and_parts, nat_tests, sum_by-cons}
use Rattle.toml.specs.Data.{Data, Items, get, item, no_items}
use Rattle.cf_model.specs.Common.{Bad, TooLong, Twice, Place, Department, Line, Object}
use Rattle.cf_chart.specs.declared.fault.KeyName.TheVariants as key
use Rattle.cf_chart.specs.declared.fault.TableName.TheVariants as table_name
use Rattle.cf_chart.specs.declared.rows.Fund.{Fund}
use Rattle.cf_chart.specs.Common.{Checked, ◌>>=◌, must, or_fault, word_of, level_for, same_keys, Plan, chart_of, checked_plan, department_row, departments_of, desks_of, functions_of, funds_of, line_part, line_row, lines_after, lines_of, new_line, objects_of, one_general, plan_of, rows_of, sizes, sources_of, top, value_of, is_rising, as_later, as_name, fund_levels, is_truth, kept, may, named, need, present, within}
use Rattle.cf_chart.proofs.Steps.{bind_ok, ok_is, or_fault_ok}
use Rattle.cf_chart.proofs.TableFacts.{table_rises}
use Rattle.cf_model.proofs.Common.{all_append, all_so, passing}

-- ---- a department that is there is there once

-- no row above an id has it
none_above : (n : ℕ) (ds : List Department) (from : ℕ) → n ≤ from → list_all (λ (d : Department). nat_lt from d.id) ds ≡ true → passing (λ (d : Department). n == d.id) ds ≡ 0
none_above n [] from low all = refl
none_above n (d ∷ ds) from low all =
    let parts = and_parts (nat_lt from d.id) (list_all (λ (d : Department). nat_lt from d.id) ds) all in
    let other : (n == d.id) ≡ false = grind (arith, nat_tests, low, parts.0) in
    let more = none_above n ds from low parts.1 in
    sum_by-cons (λ (d : Department). if n == d.id then 1 else 0) d ds
    ∙ ap (λ (b : Bool). (if b then 1 else 0) + passing (λ (d : Department). n == d.id) ds) other ∙ omega (arith, more)

one_row : (n : ℕ) (ds : List Department) → is_rising (λ (d : Department). d.id) ds ≡ true → list_any (λ (d : Department). d.id == n) ds ≡ true → passing (λ (d : Department). n == d.id) ds ≡ 1
one_row n [] rising has = absurd (cc)
one_row n (d ∷ ds) rising has =
    let parts = and_parts (list_all (λ (y : Department). nat_lt d.id y.id) ds) (is_rising (λ (y : Department). y.id) ds) rising in
    sum_by-cons (λ (d : Department). if n == d.id then 1 else 0) d ds
    ∙ by_test (n == d.id) (d.id == n) refl refl has (λ low. none_above n ds d.id low parts.0) (one_row n ds parts.1)
  where
    by_test : (b c : Bool) → (n == d.id) ≡ b → (d.id == n) ≡ c → (c || list_any (λ (y : Department). y.id == n) ds) ≡ true → (n ≤ d.id → passing (λ (y : Department). n == y.id) ds ≡ 0) →
        (list_any (λ (y : Department). y.id == n) ds ≡ true → passing (λ (y : Department). n == y.id) ds ≡ 1) → (if b then 1 else 0) + passing (λ (y : Department). n == y.id) ds ≡ 1
    by_test true c is other has none more = let low : n ≤ d.id = grind (arith, nat_tests, is) in let left = none low in omega (arith, left)
    by_test false true is other has none more = absurd (grind (arith, nat_tests, is, other))
    by_test false false is other has none more = let one = more has in omega (arith, one)

-- ---- what was read

-- what holds of what was read, if it was read
abbrev IfRead : {A : Type 0} → (A → Type 0) → Checked A → Type 0
IfRead P (Ok a) = P a
IfRead P (Err f) = Unit {0}

then_read : {A B : Type 0} (P : B → Type 0) (x : Checked A) (f : A → Checked B) → ((a : A) → x ≡ Ok a → IfRead P (f a)) → IfRead P (x >>= f)
then_read P (Ok a) f so = so a refl
then_read P (Err e) f so = tt

was_read : {A : Type 0} (P : A → Type 0) (x : Checked A) (a : A) → IfRead P x → x ≡ Ok a → P a
was_read P (Ok b) a is e = subst P (ok_is b a e) is
was_read P (Err f) a is e = absurd (cc)

-- ---- a line's department

kept_is : (p : ℕ → Bool) (n m : ℕ) → kept p n ≡ Some m → p m ≡ true
kept_is p n m e = by_test (p n) refl e
  where
    same : Some n ≡ Some m → n ≡ m
    same e = cc

    by_test : (b : Bool) → p n ≡ b → (if b then Some n else None) ≡ Some m → p m ≡ true
    by_test true is e = ap p (sym (same e)) ∙ is
    by_test false is e = cc

kept_some : (p : ℕ → Bool) (o : Option ℕ) (m : ℕ) → option_and_then (kept p) o ≡ Some m → p m ≡ true
kept_some p None m e = absurd (cc)
kept_some p (Some n) m e = kept_is p n m e

-- one of these departments has the id
abbrev HasId : List Department → ℕ → Type 0
HasId ds n = list_any (λ (d : Department). d.id == n) ds ≡ true

named_there : (ds : List Department) (p : Place) (d : Data) (n : ℕ) → need (named (λ (r : Department). r.id) ds) p key.Dept d ≡ Ok n → HasId ds n
named_there ds p d n e = by_key (get (word_of key.Dept) d) e
  where
    by_key : (o : Option Data) → present (named (λ (r : Department). r.id) ds) p key.Dept o ≡ Ok n → HasId ds n
    by_key None e = absurd (cc)
    by_key (Some v) e = kept_some (λ m. list_any (λ (r : Department). r.id == m) ds) (within 0 65535 v) n (or_fault_ok _ _ _ e)

line_there : (funds : List Fund) (ds : List Department) (objects : List Object) (p : Place) (d : Data) → IfRead (λ (l : Line). HasId ds l.dept) (line_row funds ds objects p d)
line_there funds ds objects p d =
    let P : Line → Type 0 = λ l. HasId ds l.dept in
    then_read P (need (fund_levels funds) p key.Fund d) _ (λ fund _.
    then_read P (need (named (λ (r : Department). r.id) ds) p key.Dept d) _ (λ dept found.
    then_read P (line_part objects (level_for fund.1 fund.2 (is_truth (get (word_of key.Later) d))) p d) _ (λ q _.
    then_read P (may (as_later fund.2) p key.Later d) _ (λ later _. named_there ds p d dept found))))

new_from : (row : Place → Data → Checked Line) (done : List Line) (d : Data) (l : Line) → new_line row done d ≡ Ok l → row (record { table = table_name.Line; at = length done }) d ≡ Ok l
new_from row done d l e =
    let w = bind_ok (row (record { table = table_name.Line; at = length done }) d) (λ q. must (not (list_any (λ e. same_keys e q) done)) (Twice table_name.Line (length done)) >>= (λ _. Ok q)) l e in
    let v = bind_ok (must (not (list_any (λ e. same_keys e w.0) done)) (Twice table_name.Line (length done))) (λ _. Ok w.0) l w.2 in
    w.1 ∙ v.2

lines_have : (Q : Line → Type 0) (row : Place → Data → Checked Line) (done : List Line) (ds : Items) (ls : List Line) → ((p : Place) (d : Data) (l : Line) → row p d ≡ Ok l → Q l)
    → lines_after row done ds ≡ Ok ls → AllByRecursion Q done → AllByRecursion Q ls
lines_have Q row done no_items ls so e all = subst (AllByRecursion Q) (ok_is done ls e) all
lines_have Q row done (item d ds) ls so e all =
    let w = bind_ok (new_line row done d) (λ l. lines_after row (done ++ l ∷ []) ds) ls e in
    lines_have Q row (done ++ w.0 ∷ []) ds ls so w.2 (all_append Q done (w.0 ∷ []) all (so _ d w.0 (new_from row done d w.0 w.1), tt))

lines_there : (funds : List Fund) (ds : List Department) (objects : List Object) (d : Data) (ls : List Line) → lines_of funds ds objects d ≡ Ok ls → AllByRecursion (λ (l : Line). HasId ds l.dept) ls
lines_there funds ds objects d ls e =
    let Q : Line → Type 0 = λ l. HasId ds l.dept in
    let w = bind_ok (or_fault (rows_of key.Line d) (Bad table_name.Line 0 key.Line)) (lines_after (line_row funds ds objects) []) ls e in
    lines_have Q (line_row funds ds objects) [] w.0 ls (λ p v l read. was_read Q (line_row funds ds objects p v) l (line_there funds ds objects p v) read) w.2 tt

-- ---- the chart

-- the line is of one of these departments, and of no other
abbrev pub IsOfOne : List Department → Line → Type 0
IsOfOne ds l = passing (λ (d : Department). l.dept == d.id) ds ≡ 1

abbrev AreOfOne : Plan → Type 0
AreOfOne plan = AllByRecursion (IsOfOne plan.departments) plan.lines

plan_read : (d : Data) → IfRead AreOfOne (plan_of d)
plan_read d =
    then_read AreOfOne (need as_name top key.City d) _ (λ city _.
    then_read AreOfOne (need (within 1971 2150) top key.FirstYear d) _ (λ first_year _.
    then_read AreOfOne (need (within 1 12) top key.FirstMonth d) _ (λ first_month _.
    then_read AreOfOne (functions_of d) _ (λ functions _.
    then_read AreOfOne (funds_of first_year d) _ (λ funds _.
    then_read AreOfOne (departments_of functions d) _ (λ departments departments_read.
    then_read AreOfOne (objects_of d) _ (λ objects _.
    then_read AreOfOne (sources_of functions funds d) _ (λ sources _.
    then_read AreOfOne (lines_of funds departments objects d) _ (λ lines lines_read.
    then_read AreOfOne (desks_of d) _ (λ desks _.
    then_read AreOfOne (one_general funds) _ (λ _ _.
    let rising = table_rises table_name.Department key.Department (λ (r : Department). r.id) (department_row functions) d departments departments_read in
    all_so (λ (l : Line). HasId departments l.dept) (IsOfOne departments) (λ l has. one_row l.dept departments rising has) lines (lines_there funds departments objects d lines lines_read))))))))))))

bytes_read : (bytes : List ℕ) → IfRead AreOfOne (chart_of bytes)
bytes_read bytes =
    then_read AreOfOne (must (nat_le (length bytes) 1048576) (TooLong 1048576)) _ (λ _ _.
    then_read AreOfOne (value_of bytes) checked_plan (λ d _.
    then_read AreOfOne (sizes d) (λ _. plan_of d) (λ _ _. plan_read d)))

-- the chart that bytes are
pub lines_of_one : (bytes : List ℕ) (plan : Plan) → chart_of bytes ≡ Ok plan → AllByRecursion (IsOfOne plan.departments) plan.lines
lines_of_one bytes plan read = was_read AreOfOne (chart_of bytes) plan (bytes_read bytes) read
