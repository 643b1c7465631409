use Rattle.std.proofs.Common.{◌≡◌, drop}
use Rattle.cf_model.specs.Common.{estimate_for}
use Rattle.cf_books_days.proofs.estimates.estimate_for.Given as goal

-- the rows so far name another source
abbrev pub invariant-loop-row : goal.invariant-loop-row
invariant-loop-row l = estimate_for l.source (drop l.row-index l.rows) ≡ estimate_for l.source l.rows
