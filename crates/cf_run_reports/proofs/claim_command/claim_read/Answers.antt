use Rattle.cf_run_reports.proofs.Claiming.{document_read}
use Rattle.cf_run_reports.proofs.claim_command.claim_read.Goals as goal

pub returns-in-Ok-clause-reads : goal.returns-in-Ok-clause-reads
returns-in-Ok-clause-reads g c =
    document_read c.args.book.now.plan c.args.book.now.entries c.args.grant c.args.on c.args.desk (g.I.Source.left c.args.input.now) (g.I.Source.left c.read_all.new.source)
    (g.O.Sink.held c.args.out.now) (g.O.Sink.held c.claim_with.new.out) c.in-Ok.bytes.items c.claim_with.result c.in-Ok.ensures.ok (rw c.as_slice.ensures.value at c.claim_with.ensures.over)
