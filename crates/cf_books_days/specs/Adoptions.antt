-- The adoptions of budgets that are dated through a day.
use Rattle.std.specs.Prelude.{ℕ, Bool, ◌&&◌, ◌==◌, if◌then◌else◌, is_some, List}
use Rattle.std.specs.List.{filter}
use Rattle.cf_model.specs.Common.{Day, Adoption, Entry, estimate_for}
use Rattle.cf_calls.specs.Common.{adoption_of}
use Rattle.cf_books_days.specs.Through.{is_through}

-- what an adoption estimates of a source for a fiscal year
abbrev pub estimate_in : ℕ → ℕ → Adoption → ℕ
estimate_in source year a = if a.year == year then estimate_for source a.estimates else 0

abbrev pub is_adoption_through : Day → Entry → Bool
is_adoption_through day e = is_some (adoption_of e.change.act) && is_through day e.change.on

abbrev pub adoptions_through : Day → List Entry → List Entry
adoptions_through day history = filter (is_adoption_through day) history
