use Rattle.std.proofs.Common.{◌≡◌, ◌≤◌, ◌*◌, ◌^◌, ◌+ℤ◌, drop, unsigned_abs}
use Rattle.cf_classes.specs.Classes.{encumbered_from}
use Rattle.cf_classes.proofs.classes.encumbered.Given as goal

-- what was summed, and what is still to come
abbrev pub invariant-loop-line : goal.invariant-loop-line
invariant-loop-line g l = (l.total +ℤ encumbered_from (g.F.Figures.sums l.figures) l.year l.fund l.number (drop l.line-index l.lines)
    ≡ encumbered_from (g.F.Figures.sums l.figures) l.year l.fund 0 l.lines)
    × (unsigned_abs l.total ≤ l.line-index * 2 ^ 111)
    × (l.number ≡ l.line-index)
