use Rattle.std.proofs.Common.{arith}
use Rattle.cf_register_parts.proofs.YearSums.{sum-take-set}
use Rattle.cf_register_parts.proofs.years.add_at.Goals as goal

pub returns-clause-years : goal.returns-clause-years
returns-clause-years c n = rw c.from.ensures (sum-take-set c.args.cells.now c.args.place n c.args.amount (omega (arith, c.requires.within, c.fits-cells)))
