-- The numbers of a history's row.
use Rattle.std.proofs.Common.{◌≡◌, ℕ, ◌+◌, List, ℤ, pos, ◌+ℤ◌, ◌-ℤ◌, arith}
use Rattle.cf_base.proofs.Common.{ints}
use Rattle.cf_model.specs.Common.{Entry, original, appropriated, encumbered, expended, numbers}
use Rattle.cf_chart.specs.Common.{Plan}
use Rattle.cf_budget.specs.Tables.{numbers_of}
use Rattle.cf_model.specs.LineNumbers.{held}
use Rattle.cf_registers.specs.Moved.{row_of}

pub joined : (a : ℤ) (x y z : ℕ) → a -ℤ ((pos x +ℤ pos y) +ℤ pos z) ≡ a -ℤ pos (x + y + z)
joined a x y z = omega (arith, ints)

-- the numbers of a history's row are its numbers
pub numbers_are_of : (plan : Plan) (h : List Entry) (line year : ℕ) → numbers_of (row_of plan h line year) ≡ numbers plan line year h
numbers_are_of plan h line year = λ i. record {
  original = pos (original line year h);
  appropriated = appropriated plan line year h;
  held = pos (held plan line year h);
  encumbered = pos (encumbered plan line year h);
  expended = pos (expended plan line year h);
  room = joined (appropriated plan line year h) (held plan line year h) (encumbered plan line year h) (expended plan line year h) i;
}
