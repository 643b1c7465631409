-- What a look at a bill shows.
use Rattle.std.specs.Prelude.{ℕ, Option, option_map}
use Rattle.cf_calls.specs.declared.shown.Shown.{Shown}
use Rattle.cf_calls.specs.declared.shown.Shown.TheVariants as shown
use Rattle.cf_model.specs.Receivables.{Receivables, bill_at, left_of}

-- a bill's source and levy year, and what is left of it
abbrev pub bill_shown : ℕ → Receivables → Option Shown
bill_shown number s =
    option_map (λ b. shown.Bill (left_of s.settlements b) b.levy_year b.source)
    (bill_at number s.bills)
