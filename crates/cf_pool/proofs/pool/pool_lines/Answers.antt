use Rattle.std.proofs.Common.{rules, refl, arith}
use Rattle.cf_pool.specs.Shares.{share_lines}
use Rattle.cf_pool.proofs.ReadBack.{read_back}
use Rattle.cf_pool.proofs.pool.pool_lines.Goals as goal

pub returns : goal.returns
returns c = (
  search rules,
  (
    share_lines c.args.desk c.args.month c.args.chart.now.sources c.args.chart.now.funds c.in_ok-shares.shares.items,
    (
      record {
        shares = c.in_ok-shares.shares.items;
        fair = search rules;
        text = refl;
        whole = search rules;
        read = read_back c.args.desk c.args.month c.requires.month (omega (arith, c.ranges.desk.fits));
      },
      search rules,
    ),
  ),
)
