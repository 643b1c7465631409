-- The law of closed fiscal years: each entry of a legal history leaves the years that were closed
-- before it.
use Rattle.std.proofs.Common.{◌≡◌, inl, inr, ℕ, ◌<◌, true, false, List, [], ◌∷◌, ◌++◌, sym, ◌∙◌}
use Rattle.cf_base.proofs.Common.{cases_lt}
use Rattle.cf_model.specs.Common.{Entry, is_year_closed, open_year, IsLegal, IsLegalAfter}
use Rattle.cf_chart.specs.Common.{Plan}
use Rattle.cf_model.proofs.Common.{IsWhole, legal_push, years_are}
use Rattle.cf_model_closed.specs.ClosedYears.{ClosedYearsStay, LeaveClosedYearsAfter}
use Rattle.cf_model_closed.proofs.Numbers.{numbers_of_closed}
use Rattle.cf_model_closed.proofs.Posts.{posts_open}

-- a year that an entry closes comes before the open one
before_open : (plan : Plan) (h : List Entry) → IsLegal plan h → (year : ℕ) → is_year_closed h year ≡ true → year < open_year plan h
before_open plan h legal year closed =
    elim (cases_lt year (open_year plan h)) [
      | inl less ↦ less
      | inr more ↦ absurd (clash (sym ((years_are plan h legal).free year more) ∙ closed))
    ]
  where
    clash : false ≡ true → ⊥
    clash e = cc

stay_after : (plan : Plan) → IsWhole plan → (seen later : List Entry) → IsLegal plan seen → IsLegalAfter plan seen later → LeaveClosedYearsAfter plan seen later
stay_after plan whole seen [] legal after = tt
stay_after plan whole seen (e ∷ later) legal after = (
  record {
    years = before_open plan seen legal;
    posts = posts_open plan seen e whole.calendar legal after.0;
    lines = numbers_of_closed plan seen e whole.calendar legal after.0;
  },
  stay_after plan whole (seen ++ e ∷ []) later (legal_push plan seen e legal after.0) after.1,
)

pub closed_years_always : (plan : Plan) (history : List Entry) → IsWhole plan → IsLegal plan history → ClosedYearsStay plan history
closed_years_always plan history whole legal = stay_after plan whole [] history tt legal
