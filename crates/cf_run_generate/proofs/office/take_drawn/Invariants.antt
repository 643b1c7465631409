use Rattle.std.proofs.Common.{◌≡◌, ◌+◌, ℕ}
use Rattle.cf_run_generate.specs.Generated.{after, drawn}
use Rattle.cf_run_generate.specs.Turns.{first_turn}
use Rattle.cf_run_generate.proofs.Forms.{Holds}
use Rattle.cf_run_generate.proofs.office.take_drawn.Given as goal

abbrev pub invariant-loop-i : goal.invariant-loop-i
invariant-loop-i l =
    Holds l.i l.turn × (l.office.plan ≡ l.initial.office.plan)
    × ((left : ℕ) × (l.i + left ≡ l.n)
    × (after l.initial.office.plan l.office.entries (drawn left (l.i + 7) l.turn) ≡ after l.initial.office.plan l.initial.office.entries (drawn l.n 7 (first_turn l.n))))
