-- The chart of the generator's city has no fault: its document is read here, once for all.
use Rattle.std.proofs.Common.{◌≡◌, ◌∙◌, ℕ, List, Result, Err, is_ok, false, true, true≢false, refl, sym, ap, subst}
use Rattle.std.specs.Str.{chars, is_utf8}
use Rattle.toml.proofs.OnLiterals.{toml_on_literals}
use Rattle.cf_model.specs.Common.{ChartFault, ChartRefused, Fault}
use Rattle.cf_chart.specs.Common.{Gives, Plan, chart_of}
use Rattle.cf_run_generate.specs.Generated.{chart_text}

is_read : is_ok (chart_of chart_text) ≡ true
unfolding chart_text toml_on_literals is_utf8 chars
is_read = refl

pub has_no_fault : (bytes : List ℕ) (read : Result Plan ChartRefused) (refused : ChartRefused) (fault : ChartFault) → bytes ≡ chart_text → read ≡ Err refused → refused ≡ Fault fault
    → Gives read (chart_of bytes) → ⊥
has_no_fault bytes read refused fault same is faulty gives =
    let told : chart_of bytes ≡ Err fault = subst (λ (r : Result Plan ChartRefused). Gives r (chart_of bytes)) (is ∙ ap Err faulty) gives in
    let no : is_ok (chart_of chart_text) ≡ false = ap (λ (b : List ℕ). is_ok (chart_of b)) (sym same) ∙ ap is_ok told in
    true≢false (sym is_read ∙ no)
