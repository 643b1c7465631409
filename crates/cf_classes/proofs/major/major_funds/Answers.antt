use Rattle.cf_classes.proofs.Together.{funds_sum}
use Rattle.cf_classes.proofs.major.major_funds.Goals as goal

pub returns-clause-whole : goal.returns-clause-whole
returns-clause-whole g c = funds_sum (g.F.Figures.plan c.args.figures.now) (g.F.Figures.sums c.args.figures.now) c.args.year
