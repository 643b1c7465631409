use Rattle.std.proofs.Common.{◌≡◌, ℕ, List, map, take}
use Rattle.cf_assets.specs.Charges.{AreCharges}
use Rattle.cf_model.specs.Common.{Asset}
use Rattle.cf_registers.specs.Deeds.{charge_deed}
use Rattle.cf_registers.proofs.closing.depreciate.Given as goal

abbrev pub invariant-loop-place : goal.invariant-loop-place
invariant-loop-place l = (closed : ℕ) (assets : List Asset) → AreCharges closed assets l.chart.functions l.charges → l.deeds.items ≡ map (charge_deed l.year closed assets) (take l.place l.chart.functions)
