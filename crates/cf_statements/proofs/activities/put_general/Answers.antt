use Rattle.std.proofs.Common.{[], ◌∷◌, if◌then◌else◌, rules}
use Rattle.cf_chart.specs.declared.rows.RevenueSource.{RevenueSource}
use Rattle.cf_statements.specs.declared.activity.RevenueClass.TheVariants as class
use Rattle.cf_statements.specs.Activities.{is_in, revenue}
use Rattle.cf_statements.specs.Sums.{single}
use Rattle.cf_statements.proofs.Next.{next_flat}
use Rattle.cf_statements.proofs.activities.put_general.Goals as goal
use Rattle.cf_statements.proofs.activities.put_general.Goals.{then-is_in+in_ok-put_single, else-is_in}

pub loop-source-preserved : goal.loop-source-preserved
loop-source-preserved g c =
    let f = λ (s : RevenueSource). if is_in class.General s.kind then single s.name (revenue (g.F.Figures.sums c.args.figures.now) c.args.year s) ∷ [] else [] in
    let i = c.loop-source.source-index in
    elim c.if-is_in.branch [
      | then-is_in+in_ok-put_single w ↦ rw w.rows-is
          (next_flat f c.args.sources.now i c.source-item.result c.loop-source.rows.items w.put_single.new.rows.items _ c.loop-source-test.true c.source-item.is (search rules) c.loop-source.invariant)
      | else-is_in w ↦ rw w.rows-is
          (next_flat f c.args.sources.now i c.source-item.result c.loop-source.rows.items c.loop-source.rows.items _ c.loop-source-test.true c.source-item.is (search rules) c.loop-source.invariant)
    ]
