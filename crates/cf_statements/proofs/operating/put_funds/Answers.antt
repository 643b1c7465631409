use Rattle.std.proofs.Common.{◌≡◌, ◌∙◌, ◌+◌, ◌∷◌, ◌++◌, ap, append_assoc, drop, flat_map}
use Rattle.cf_statements.specs.Operating.{fund_rows}
use Rattle.cf_statements.proofs.Next.{next_item}
use Rattle.cf_statements.proofs.operating.put_funds.Goals as goal

pub loop-fund-preserved : goal.loop-fund-preserved
loop-fund-preserved g c =
    let f = fund_rows (g.F.Figures.plan c.args.figures.now) (g.F.Figures.sums c.args.figures.now) c.args.year in
    let fund = c.fund-item.result in
    let funds = c.args.funds.now in
    let i = c.loop-fund.fund-index in
    let rest : fund ∷ drop (i + 1) funds ≡ drop i funds = next_item funds i fund c.loop-fund-test.true c.fund-item.is in
    ap (λ l. l ++ flat_map f (drop (i + 1) funds)) c.in_ok-put_fund.ensures
    ∙ append_assoc c.loop-fund.rows.items (f fund) (flat_map f (drop (i + 1) funds))
    ∙ ap (λ l. c.loop-fund.rows.items ++ flat_map f l) rest ∙ c.loop-fund.invariant
