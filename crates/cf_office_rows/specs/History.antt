-- The rows of a whole history: each entry's over the registers before it and by its posts on the
-- fund basis.
use Rattle.std.specs.Prelude.{◌≡◌, ℕ, ◌+◌, ◌≤◌, ◌<◌, ◌==◌, ◌&&◌, List, [], ◌∷◌, ◌++◌, pos, ◌-ℤ◌}
use Rattle.cf_model.specs.Common.{Entry, act_posts, posts_in, Registers, no_registers, registers_step}
use Rattle.cf_calls.specs.declared.read.Basis.TheVariants.{Fund as FundBasis}
use Rattle.cf_chart.specs.Common.{Plan}
use Rattle.cf_ledger.specs.Posts.{sum_where}
use Rattle.cf_model.specs.LineNumbers as numbers
use Rattle.cf_office_rows.specs.declared.rows.LedgerRow.{LedgerRow}
use Rattle.cf_office_rows.specs.Entries.{entry_rows}
use Rattle.cf_office_rows.specs.Rows.{line_sum, source_sum}

abbrev pub rows_after : Plan → Registers → ℕ → List Entry → List LedgerRow
rows_after plan s place [] = []
rows_after plan s place (e ∷ later) =
    entry_rows plan s place e (act_posts FundBasis plan s e.change.on e.change.act)
    ++ rows_after plan (registers_step plan s e) (place + 1) later

-- all rows of a history, oldest entry first
abbrev pub history_rows : Plan → List Entry → List LedgerRow
history_rows plan history = rows_after plan no_registers 1 history

-- the rows add up to the numbers of each line and fiscal year: to what is appropriated, encumbered,
-- held and expended
pub record AddUp (plan : Plan) (history : List Entry) (rows : List LedgerRow) : Type 0 where
  pub appropriated : (line year : ℕ)
      → line_sum (λ a. a.appropriated) line year rows ≡ numbers.appropriated plan line year history
  pub ordered : (line year : ℕ)
      → line_sum (λ a. a.ordered) line year rows ≡ pos (numbers.encumbered plan line year history)
  pub held : (line year : ℕ)
      → line_sum (λ a. a.held) line year rows ≡ pos (numbers.held plan line year history)
  pub spent : (line year : ℕ)
      → line_sum (λ a. a.spent) line year rows ≡ pos (numbers.expended plan line year history)
  -- and to the revenue of each source, which is a credit of its account
  pub received : (source year : ℕ) → 1 ≤ source → source < 10000 →
      source_sum source year rows
      ≡ pos 0 -ℤ sum_where (λ p. (p.account == 400000 + source) && (p.year == year))
      (posts_in FundBasis plan history)
