-- A run of `generate`.
use Rattle.std.proofs.Common.{◌≡◌, ℕ, List, [], Option, Result, Ok, Err, IfOk, OnErr, Vec, refl, sym, subst}
use Rattle.std.specs.Global.{Global}
use Rattle.cf_model.specs.Common.{Entry, ReconShown}
use Rattle.cf_chart.specs.Common.{Plan, chart_of}
use Rattle.cf_run_generate.specs.Generated.{chart_text, generated}
use Rattle.cf_run_status.specs.declared.status.Status.{Status}
use Rattle.cf_run_status.specs.declared.status.Status.TheVariants as status
use Rattle.cf_top.specs.Generates.{GenerateEnds, IsGenerated, office_lines, total_lines}
use Rattle.cf_run_status.specs.Printing.{Prints}

pub same_lines : {E : Type 0} (made : Result (Vec ℕ Global) E) (count count' : ℕ) (recon recon' : ReconShown) → count ≡ count' → recon ≡ recon'
    → IfOk made (λ text. text.items ≡ total_lines count recon) → IfOk made (λ text. text.items ≡ total_lines count' recon')
same_lines made count count' recon recon' counts recons lines =
    subst (λ (n : ℕ). IfOk made (λ text. text.items ≡ total_lines n recon')) counts (subst (λ (r : ReconShown). IfOk made (λ text. text.items ≡ total_lines count r)) recons lines)

-- the lines of the run's history
pub lines_made : {E : Type 0} (n : ℕ) (made : Result (Vec ℕ Global) E) (plan : Plan) (history : List Entry) → chart_of chart_text ≡ Ok plan → history ≡ generated plan n
    → IfOk made (λ text. text.items ≡ office_lines plan history) → IfOk made (λ text. IsGenerated n text.items)
lines_made n (Ok text) plan history states steps lines = record { plan = plan; states = states; history = history; steps = steps; lines = lines }
lines_made n (Err e) plan history states steps lines = tt

-- the lines were printed, where they were made
pub generate_printed : {E : Type 0} (n : ℕ) (held held' : Option (List ℕ)) (made : Result (Vec ℕ Global) E) (s : Status) → IfOk made (λ text. IsGenerated n text.items)
    → ((bytes : List ℕ) → IfOk made (λ text. text.items ≡ bytes) → Prints bytes held held' s) → OnErr made (s ≡ status.NoMemory) → GenerateEnds n held held' s
generate_printed n held held' (Ok text) s generated prints none = by_status s (prints text.items refl)
  where
    by_status : (t : Status) → Prints text.items held held' t → GenerateEnds n held held' t
    by_status status.Ok p = (text.items, generated, p)
    by_status status.WriteFault p = (text.items, generated, p)
    by_status status.NoMemory p = p
    by_status _ p = absurd p
generate_printed n held held' (Err e) s generated prints none = subst (GenerateEnds n held held') (sym none) (subst (Prints [] held held') none (prints [] tt))
