use Rattle.std.proofs.Common.{◌≡◌, ◌+◌, ◌≤◌, ◌++◌, length, reverse}
use Rattle.cf_top.proofs.serve_command.take_others.Given as goal

abbrev pub invariant-loop : goal.invariant-loop
invariant-loop g l =
    (l.doors.items ++ reverse l.others.items ≡ l.initial.doors.items)
    × (length l.doors.items + l.counter ≡ l.first + l.end)
    × (length l.others.items + length l.doors.items ≡ length l.initial.doors.items)
    × (l.first ≤ l.counter)
    × (l.doors.cap ≡ l.initial.doors.cap)
    × (l.others.cap ≡ l.initial.others.cap)
