use Rattle.std.proofs.Common.{◌≡◌, ◌++◌, ◌∷◌, [], append_assoc, codes, rules}
use Rattle.cf_statements.specs.Balance.{asset_rows, liability_rows}
use Rattle.cf_statements.specs.Sums.{heading, single}
use Rattle.cf_statements.proofs.balance.put_fund.Goals as goal

pub returns : goal.returns
returns g c =
    let sums = g.F.Figures.sums c.args.figures.now in
    let year = c.args.year in
    let fund = c.args.fund.now in
    let first : c.put_heading.new.rows.items ≡ c.args.rows.now.items ++ heading fund.name ∷ [] = search rules in
    let second : c.put_table.new.rows.items ≡ c.put_heading.new.rows.items ++ asset_rows sums year fund.id = c.in_ok-put_table.ensures in
    let third : c.put_table-2.new.rows.items ≡ c.put_table.new.rows.items ++ liability_rows sums year fund.id = c.in_ok-put_table-2.ensures in
    let last : c.put_single.new.rows.items ≡ c.put_table-2.new.rows.items ++ single (codes "Fund balance") (sums.fund_balance year fund.id) ∷ [] = search rules in
    rw (last, third, second, first) (simp append_assoc)
