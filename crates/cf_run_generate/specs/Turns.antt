-- How the generator draws its calls: by a linear congruential generator, the same in each run (own
-- rule).
use Rattle.std.specs.Prelude.{ℕ, ◌+◌, ◌*◌, ◌/◌, ◌%◌, ◌==◌, if◌then◌else◌, Some, None}
use Rattle.cf_run_generate.specs.declared.turn.Turn.{Turn}
use Rattle.cf_run_generate.specs.declared.turn.Choice.{Choice}
use Rattle.cf_run_generate.specs.declared.turn.Choice.TheVariants as choice

-- the number drawn after a number
abbrev pub next_seed : ℕ → ℕ
next_seed x = (1103515245 * x + 12345) % 2147483648

abbrev pub first_turn : ℕ → Turn
first_turn n = record { seed = next_seed n; orders = 0; waiting = None }

-- the control line, from 0 to 39, the amount in cents and the kind of the turn's call
abbrev pub line_of : Turn → ℕ
line_of t = t.seed / 65536 % 40

abbrev pub amount_of : Turn → ℕ
amount_of t = t.seed / 65536 + 1

abbrev pub choice_by : ℕ → Choice
choice_by k =
    if k == 0 then choice.Order
    else (if k == 1 then choice.Direct
    else (if k == 2 then choice.Final else choice.Receipt))

abbrev pub choice_of : Turn → Choice
choice_of t = choice_by (t.seed / 65536 / 40 % 4)

-- the turn after: an order waits for its voucher, which comes at most once
abbrev pub moved_on : Choice → Turn → Turn
moved_on choice.Order t =
    record { seed = next_seed t.seed; orders = t.orders + 1; waiting = Some (line_of t) }
moved_on choice.Final t = record { seed = next_seed t.seed; orders = t.orders; waiting = None }
moved_on _ t = record { seed = next_seed t.seed; orders = t.orders; waiting = t.waiting }

abbrev pub turn_after : Turn → Turn
turn_after t = moved_on (choice_of t) t
