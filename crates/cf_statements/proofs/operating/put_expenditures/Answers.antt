use Rattle.std.proofs.Common.{◌≡◌, ◌++◌, ◌∷◌, [], append_assoc, rules}
use Rattle.cf_statements.specs.Operating as spec
use Rattle.cf_statements.specs.Sums.{single}
use Rattle.cf_statements.proofs.operating.put_expenditures.Goals as goal

pub returns : goal.returns
returns g c =
    let functions = (g.F.Figures.plan c.args.figures.now).functions in
    let sums = g.F.Figures.sums c.args.figures.now in
    let first : c.put_functions.new.rows.items ≡ c.args.rows.now.items ++ spec.function_rows sums c.args.year c.args.fund functions = search rules in
    let second : c.put_table.new.rows.items ≡ c.put_functions.new.rows.items ++ spec.outlay_rows sums c.args.year c.args.fund = c.in_ok-put_table.ensures in
    let last : c.put_single.new.rows.items ≡ c.put_table.new.rows.items ++ single c.args.total.now (spec.total_expenditures sums c.args.year c.args.fund functions) ∷ [] = search rules in
    rw (last, second, first) (simp append_assoc)
