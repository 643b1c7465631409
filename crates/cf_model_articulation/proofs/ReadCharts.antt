-- A chart that was read has what statements need of it.
use Rattle.std.proofs.Common.{◌≡◌, ℕ, Bool, true, false, if◌then◌else◌, ◌==◌, nat_le, List, length, Option, Some, None, option_and_then, Ok, Err, refl, sym, ap, subst, ◌∙◌}
use Rattle.cf_base.proofs.Common.{list_all, list_any}
use Rattle.toml.specs.Data.{Data, get}
use Rattle.cf_model.specs.Common.{TooLong, Window, KeyName, Place, Function, RevenueKind, RevenueSource, SourceWord}
use Rattle.cf_chart.specs.declared.fault.KeyName.TheVariants as key
use Rattle.cf_chart.specs.declared.fault.TableName.TheVariants as table_name
use Rattle.cf_chart.specs.declared.rows.Fund.{Fund}
use Rattle.cf_chart.specs.declared.rows.RevenueKind.TheVariants as kind
use Rattle.cf_chart.specs.declared.words.SourceWord.TheVariants as word
use Rattle.cf_chart.specs.Common.{Checked, ◌>>=◌, must, word_of, has_function, longest_of, Plan, chart_of, checked_plan, department_row, departments_of, desks_of, function_key, function_row, functions_of, fund_row, funds_of, lines_of, objects_of, one_general, plan_of, source_row, sources_of, sizes, top, value_of, with_function, as_name, as_word, kept, named, need, present, source_words, within}
use Rattle.cf_chart.proofs.RowFacts.{department_known}
use Rattle.cf_chart.proofs.Steps.{AllFit, need_within, ok_is, or_fault_ok, sizes_ok}
use Rattle.cf_chart.proofs.TableFacts.{table_all, table_few, table_rises}
use Rattle.cf_model.proofs.Common.{whole, IsWhole, true_le}
use Rattle.cf_model_articulation.specs.OwnAccounts.{HasOwnAccounts, is_of_function, is_of_fund}

-- what holds of what was read, if it was read
abbrev IfRead : {A : Type 0} → (A → Type 0) → Checked A → Type 0
IfRead P (Ok a) = P a
IfRead P (Err f) = Unit {0}

then_read : {A B : Type 0} (P : B → Type 0) (x : Checked A) (f : A → Checked B) → ((a : A) → x ≡ Ok a → IfRead P (f a)) → IfRead P (x >>= f)
then_read P (Ok a) f so = so a refl
then_read P (Err e) f so = tt

was_read : {A : Type 0} (P : A → Type 0) (x : Checked A) (a : A) → IfRead P x → x ≡ Ok a → P a
was_read P (Ok b) a is e = subst P (ok_is b a e) is
was_read P (Err f) a is e = absurd (cc)

-- ---- a key that names a row

then_some : {A B : Type 0} (f : A → Option B) (o : Option A) (b : B) → option_and_then f o ≡ Some b → (a : A) × (f a ≡ Some b)
then_some f None b e = absurd (cc)
then_some f (Some a) b e = (a, e)

kept_is : (p : ℕ → Bool) (n m : ℕ) → kept p n ≡ Some m → p m ≡ true
kept_is p n m e = by_test (p n) refl e
  where
    same : Some n ≡ Some m → n ≡ m
    same e = cc

    by_test : (b : Bool) → p n ≡ b → (if b then Some n else None) ≡ Some m → p m ≡ true
    by_test true is e = ap p (sym (same e)) ∙ is
    by_test false is e = cc

named_there : {A : Type 0} (id : A → ℕ) (rows : List A) (p : Place) (k : KeyName) (d : Data) (n : ℕ) → need (named id rows) p k d ≡ Ok n → list_any (λ r. id r == n) rows ≡ true
named_there id rows p k d n e = by_key (get (word_of k) d) e
  where
    by_key : (o : Option Data) → present (named id rows) p k o ≡ Ok n → list_any (λ r. id r == n) rows ≡ true
    by_key None e = absurd (cc)
    by_key (Some v) e =
        let of = then_some (kept (λ m. list_any (λ r. id r == m) rows)) (within 0 65535 v) n (or_fault_ok _ _ _ e) in
        kept_is (λ m. list_any (λ r. id r == m) rows) of.0 n of.1

-- ---- rows

function_low : (p : Place) (d : Data) → IfRead (λ (f : Function). nat_le f.id 999 ≡ true) (function_row p d)
function_low p d =
    let P : Function → Type 0 = λ f. nat_le f.id 999 ≡ true in
    then_read P (need (within 1 999) p key.Id d) _ (λ id read. then_read P (need as_name p key.Name d) _ (λ name _. true_le id 999 (need_within 1 999 p key.Id d id read).1))

abbrev KindThere : List Function → RevenueKind → Type 0
KindThere functions k = is_of_function functions k ≡ true

kind_there : (functions : List Function) (w : SourceWord) (p : Place) (d : Data) → IfRead (KindThere functions) (with_function functions w p d)
kind_there functions word.PropertyTax p d = refl
kind_there functions word.Tax p d = refl
kind_there functions word.General p d = refl
kind_there functions word.Charges p d =
    then_read (KindThere functions) (function_key functions p d) (λ n. Ok (kind.Charges n)) (λ n read. named_there (λ (r : Function). r.id) functions p key.Function d n read)
kind_there functions word.OperatingGrant p d =
    then_read (KindThere functions) (function_key functions p d) (λ n. Ok (kind.OperatingGrant n)) (λ n read. named_there (λ (r : Function). r.id) functions p key.Function d n read)
kind_there functions word.CapitalGrant p d =
    then_read (KindThere functions) (function_key functions p d) (λ n. Ok (kind.CapitalGrant n)) (λ n read. named_there (λ (r : Function). r.id) functions p key.Function d n read)

-- what is known of a source that was read
record IsReadSource (functions : List Function) (funds : List Fund) (s : RevenueSource) : Type 0 where
  pub low : nat_le s.id 9999 ≡ true
  pub of_fund : is_of_fund funds s ≡ true
  pub of_function : is_of_function functions s.kind ≡ true

source_is : (functions : List Function) (funds : List Fund) (p : Place) (d : Data) → IfRead (IsReadSource functions funds) (source_row functions funds p d)
source_is functions funds p d =
    let P : RevenueSource → Type 0 = IsReadSource functions funds in
    then_read P (need (within 1 9999) p key.Id d) _ (λ id id_read.
    then_read P (need as_name p key.Name d) _ (λ name _.
    then_read P (need (named (λ (r : Fund). r.id) funds) p key.Fund d) _ (λ fund fund_read.
    then_read P (need (as_word source_words) p key.Kind d) _ (λ w _.
    then_read P (with_function functions w p d) _ (λ k kind_read.
    then_read P (need (within 0 65535) p key.Window d) _ (λ window _.
    then_read P (must (nat_le window (longest_of k)) (Window id window)) (λ _. Ok (record { id = id; name = name; fund = fund; kind = k; window = window })) (λ _ rule. record {
      low = true_le id 9999 (need_within 1 9999 p key.Id d id id_read).1;
      of_fund = named_there (λ (r : Fund). r.id) funds p key.Fund d fund fund_read;
      of_function = was_read (KindThere functions) (with_function functions w p d) k (kind_there functions w p d) kind_read;
    })))))))

-- ---- the chart

-- what is known of the sources that were read
each_source : (functions : List Function) (funds : List Fund) (d : Data) (sources : List RevenueSource) (q : RevenueSource → Bool) →
    ((s : RevenueSource) → IsReadSource functions funds s → q s ≡ true) → sources_of functions funds d ≡ Ok sources → list_all q sources ≡ true
each_source functions funds d sources q so read =
    table_all q table_name.Source key.Source (λ s. s.id) (source_row functions funds) d sources
    (λ p v s e. so s (was_read (IsReadSource functions funds) (source_row functions funds p v) s (source_is functions funds p v) e)) read

tables_read : (plan : Plan) (d : Data) → functions_of d ≡ Ok plan.functions → funds_of plan.first_year d ≡ Ok plan.funds → departments_of plan.functions d ≡ Ok plan.departments →
    sources_of plan.functions plan.funds d ≡ Ok plan.sources → HasOwnAccounts plan
tables_read plan d functions funds departments sources = record {
  functions = table_rises table_name.Function key.Function (λ r. r.id) function_row d plan.functions functions;
  funds = table_rises table_name.Fund key.Fund (λ r. r.id) (fund_row plan.first_year) d plan.funds funds;
  sources = table_rises table_name.Source key.Source (λ r. r.id) (source_row plan.functions plan.funds) d plan.sources sources;
  function_ids =
      table_all (λ f. nat_le f.id 999) table_name.Function key.Function (λ r. r.id) function_row d plan.functions
      (λ p v f e. was_read (λ (f : Function). nat_le f.id 999 ≡ true) (function_row p v) f (function_low p v) e) functions;
  source_ids = each_source plan.functions plan.funds d plan.sources (λ s. nat_le s.id 9999) (λ s is. is.low) sources;
  departments =
      table_all (has_function plan.functions) table_name.Department key.Department (λ r. r.id) (department_row plan.functions) d plan.departments (department_known plan.functions) departments;
  source_funds = each_source plan.functions plan.funds d plan.sources (is_of_fund plan.funds) (λ s is. is.of_fund) sources;
  source_functions = each_source plan.functions plan.funds d plan.sources (λ s. is_of_function plan.functions s.kind) (λ s is. is.of_function) sources;
}

-- what is known of a chart that was read
pub record IsReadChart (plan : Plan) : Type 0 where
  pub whole : IsWhole plan
  pub own : HasOwnAccounts plan

plan_read : (d : Data) → AllFit d → IfRead IsReadChart (plan_of d)
plan_read d fit =
    let P : Plan → Type 0 = IsReadChart in
    then_read P (need as_name top key.City d) _ (λ city _.
    then_read P (need (within 1971 2150) top key.FirstYear d) _ (λ first_year year_read.
    then_read P (need (within 1 12) top key.FirstMonth d) _ (λ first_month month_read.
    then_read P (functions_of d) _ (λ functions functions_read.
    then_read P (funds_of first_year d) _ (λ funds funds_read.
    then_read P (departments_of functions d) _ (λ departments departments_read.
    then_read P (objects_of d) _ (λ objects _.
    then_read P (sources_of functions funds d) _ (λ sources sources_read.
    then_read P (lines_of funds departments objects d) _ (λ lines _.
    then_read P (desks_of d) _ (λ desks _.
    then_read P (one_general funds) _ (λ _ _.
    let own = tables_read _ d functions_read funds_read departments_read sources_read in
    let month = need_within 1 12 top key.FirstMonth d first_month month_read in
    record {
      whole =
          whole _ (need_within 1971 2150 top key.FirstYear d first_year year_read).0 month.0 month.1 own.functions
          (table_few table_name.Function key.Function (λ r. r.id) function_row d functions 64 functions_read fit.functions) own.departments;
      own = own;
    })))))))))))

bytes_read : (bytes : List ℕ) → IfRead IsReadChart (chart_of bytes)
bytes_read bytes =
    then_read IsReadChart (must (nat_le (length bytes) 1048576) (TooLong 1048576)) _ (λ _ _.
    then_read IsReadChart (value_of bytes) checked_plan (λ d _.
    then_read IsReadChart (sizes d) (λ _. plan_of d) (λ _ fit. plan_read d (sizes_ok d fit))))

-- the chart that bytes are
pub read_chart : (bytes : List ℕ) (plan : Plan) → chart_of bytes ≡ Ok plan → IsReadChart plan
read_chart bytes plan read = was_read IsReadChart (chart_of bytes) plan (bytes_read bytes) read
