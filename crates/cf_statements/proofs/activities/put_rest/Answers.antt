use Rattle.std.proofs.Common.{◌≡◌, ◌++◌, ◌∷◌, [], append_assoc, rules}
use Rattle.cf_statements.specs.Activities as spec
use Rattle.cf_statements.specs.Sums.{single}
use Rattle.cf_statements.proofs.activities.put_rest.Goals as goal

pub returns : goal.returns
returns g c =
    let plan = g.F.Figures.plan c.args.figures.now in
    let sums = g.F.Figures.sums c.args.figures.now in
    let year = c.args.year in
    let first : c.put_general.new.rows.items ≡ c.args.rows.now.items ++ spec.general_rows sums year plan.sources = search rules in
    let second : c.put_single.new.rows.items ≡ c.put_general.new.rows.items ++ single c.args.gain.now (spec.gains sums year) ∷ [] = search rules in
    let third : c.put_single-2.new.rows.items ≡ c.put_single.new.rows.items ++ single c.args.net.now (spec.change plan sums year) ∷ [] = search rules in
    rw (third, second, first) (simp append_assoc)
