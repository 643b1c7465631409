use Rattle.std.proofs.Common.{◌==◌, if◌then◌else◌, [], ◌∷◌, None, rules}
use Rattle.cf_model.specs.Common.{RevenueSource}
use Rattle.cf_books_lists.proofs.Next.{next_flat}
use Rattle.cf_books_lists.proofs.statement.put_sources.Goals as goal
use Rattle.cf_books_lists.proofs.statement.put_sources.Goals.{then-source-fund+in_ok-push, else-source-fund}

pub loop-source-preserved : goal.loop-source-preserved
loop-source-preserved c =
    let lines = λ (s : RevenueSource). if s.fund == c.args.fund then None ∷ [] else [] in
    let i = c.loop-source.source-index in
    elim c.if-source-fund.branch [
      | then-source-fund+in_ok-push w ↦ rw w.out-is
          (next_flat lines c.args.sources.now i c.source-item.result c.loop-source.out.items w.push.new.self.items _ c.loop-source-test.true c.source-item.is (search rules) c.loop-source.invariant)
      | else-source-fund w ↦ rw w.out-is
          (next_flat lines c.args.sources.now i c.source-item.result c.loop-source.out.items c.loop-source.out.items _ c.loop-source-test.true c.source-item.is (search rules) c.loop-source.invariant)
    ]
