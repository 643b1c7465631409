use Rattle.cf_journal_book.proofs.Keeping.{at_rest}
use Rattle.cf_run_status.proofs.ran.unread.Goals as goal

pub returns-clause-at_rest : goal.returns-clause-at_rest
returns-clause-at_rest g c = at_rest g.D.Disk.moment g.D.Disk.was_image c.args.disk (g.D.Disk.is_image c.args.disk) (g.met.D.Disk.only_now c.args.disk)
