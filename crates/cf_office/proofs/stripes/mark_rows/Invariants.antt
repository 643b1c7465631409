use Rattle.std.proofs.Common.{◌≡◌, ◌<◌, ◌==◌, ◌||◌, ℕ, take}
use Rattle.cf_base.proofs.Common.{list_any}
use Rattle.cf_model.specs.Common.{LineAmount, stripe_of}
use Rattle.cf_office.specs.Marks.{mark_at}
use Rattle.cf_office.proofs.stripes.mark_rows.Given as goal

-- the rows so far are marked
abbrev pub invariant-loop-row : goal.invariant-loop-row
invariant-loop-row l = (k : ℕ) → k < 8 → mark_at l.marks k ≡ (mark_at l.initial.marks k || list_any (λ (r : LineAmount). stripe_of r.line == k) (take l.row-index l.rows))
