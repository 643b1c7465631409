-- What entries leave of closed fiscal years (GASB Codification 1700: the fiscal period. That they
-- leave all but what a cancelled order had open is an own rule).
use Rattle.std.specs.Prelude.{◌≡◌, ℕ, ◌<◌, ◌≤◌, Bool, true, false, List, [], ◌∷◌, ◌++◌, All}
use Rattle.cf_model.specs.Common.{Act, CancelOrder, Entry, Basis, is_year_closed, open_year, numbers, act_posts, registers_of}
use Rattle.cf_chart.specs.Common.{Plan}

abbrev pub cancels : Act → Bool
cancels (CancelOrder n) = true
cancels _ = false

-- an entry leaves the years that were closed before it
pub record LeavesClosedYears (plan : Plan) (history : List Entry) (e : Entry) : Type 0 where
  -- these come before the open year
  pub years : (year : ℕ) → is_year_closed history year ≡ true → year < open_year plan history
  -- on either basis each post of the entry is of the open year or of a later one
  pub posts : (basis : Basis)
      → All (λ p. open_year plan history ≤ p.year)
      (act_posts basis plan (registers_of plan history) e.change.on e.change.act)
  -- where it cancels no order, the numbers of every control line in every year before the open one
  -- stay
  pub lines : cancels e.change.act ≡ false → (line year : ℕ) → year < open_year plan history
      → numbers plan line year (history ++ e ∷ []) ≡ numbers plan line year history

abbrev pub LeaveClosedYearsAfter : Plan → List Entry → List Entry → Type 0
LeaveClosedYearsAfter plan seen [] = Unit {0}
LeaveClosedYearsAfter plan seen (e ∷ later) = LeavesClosedYears plan seen e
    × LeaveClosedYearsAfter plan (seen ++ e ∷ []) later

-- each entry of a history leaves the years that were closed before it
abbrev pub ClosedYearsStay : Plan → List Entry → Type 0
ClosedYearsStay plan history = LeaveClosedYearsAfter plan [] history
