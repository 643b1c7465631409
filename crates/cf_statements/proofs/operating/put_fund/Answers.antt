use Rattle.std.proofs.Common.{◌≡◌, ◌++◌, ◌∷◌, [], append_assoc, rules}
use Rattle.cf_statements.specs.Sums.{heading}
use Rattle.cf_statements.proofs.operating.put_fund.Goals as goal

pub returns : goal.returns
returns g c =
    let headed : c.put_heading.new.rows.items ≡ c.args.rows.now.items ++ heading c.args.fund.now.name ∷ [] = search rules in
    rw (c.in_ok-put_changes.ensures, c.in_ok-put_expenditures.ensures, c.in_ok-put_sources.ensures, headed) (simp append_assoc)
