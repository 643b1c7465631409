use Rattle.std.proofs.Common.{◌≡◌, ◌++◌, ◌∷◌, [], append_assoc, rules}
use Rattle.cf_statements.specs.Operating as spec
use Rattle.cf_statements.specs.Sums.{single}
use Rattle.cf_statements.proofs.operating.put_changes.Goals as goal

pub returns : goal.returns
returns g c =
    let plan = g.F.Figures.plan c.args.figures.now in
    let sums = g.F.Figures.sums c.args.figures.now in
    let first : c.put_table.new.rows.items ≡ c.args.rows.now.items ++ spec.financing_rows sums c.args.year c.args.fund = c.in_ok-put_table.ensures in
    let last : c.put_single.new.rows.items ≡ c.put_table.new.rows.items ++ single c.args.net.now (spec.net_change plan sums c.args.year c.args.fund) ∷ [] = search rules in
    rw (last, first) (simp append_assoc)
