-- What a run of `generate` says, by its status.
use Rattle.std.specs.Prelude.{◌≡◌, ℕ, List, ◌++◌, length, codes, Option, Ok}
use Rattle.cf_model.specs.Common.{Entry, ReconShown, recon_shown}
use Rattle.cf_chart.specs.Common.{Plan, chart_of}
use Rattle.cf_run_generate.specs.Generated.{chart_text, generated}
use Rattle.cf_statements.specs.Sums.{single}
use Rattle.cf_text.specs.Statement.{count_line, row_line}
use Rattle.cf_run_status.specs.declared.status.Status.{Status}
use Rattle.cf_run_status.specs.declared.status.Status.TheVariants as status
use Rattle.cf_run_status.specs.Printing.{Prints}

-- how many entries there are, and what they come to
abbrev pub total_lines : ℕ → ReconShown → List ℕ
total_lines count recon =
    count_line (codes "Entries") count
    ++ row_line (single (codes "Total fund balances") recon.fund_balances)
    ++ row_line (single (codes "Net position") recon.net_position)

-- the same of a history, at the end of fiscal year 2026
abbrev pub office_lines : Plan → List Entry → List ℕ
office_lines plan history = total_lines (length history) (recon_shown plan 2026 history)

-- the lines of the history that the step makes of so many drawn calls, under the chart of the
-- generator's city
pub record IsGenerated (n : ℕ) (text : List ℕ) : Type 0 where
  pub plan : Plan
  pub states : chart_of chart_text ≡ Ok plan
  pub history : List Entry
  pub steps : history ≡ generated plan n
  pub lines : text ≡ office_lines plan history

abbrev pub GenerateEnds : ℕ → Option (List ℕ) → Option (List ℕ) → Status → Type 0
GenerateEnds n held held' status.Ok = (text : List ℕ) × IsGenerated n text
    × Prints text held held' status.Ok
GenerateEnds n held held' status.WriteFault = (text : List ℕ) × IsGenerated n text
    × Prints text held held' status.WriteFault
GenerateEnds n held held' status.NoMemory = held' ≡ held
GenerateEnds n held held' _ = ⊥
