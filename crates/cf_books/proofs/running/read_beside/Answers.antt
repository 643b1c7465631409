use Rattle.cf_base.proofs.Common.{IfOk-weaker}
use Rattle.cf_books.specs.Answers.{reads_journal}
use Rattle.cf_books.proofs.Ends.{beside_read, few}
use Rattle.cf_books.proofs.running.read_beside.Goals as goal

pub returns-clause-ok : goal.returns-clause-ok
returns-clause-ok g c =
    IfOk-weaker c.read_all.result _ _ (λ v read. beside_read _ (reads_journal c.args.command) (g.J.Source.left c.args.journal.now) _ v.items read (few v)) c.read_all.ensures.ok
