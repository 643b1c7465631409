use Rattle.cf_top.proofs.Generating.{lines_made}
use Rattle.cf_top.proofs.generate_command.run_lines.Goals as goal

pub returns : goal.returns
returns c = lines_made c.args.n c.office_lines.result c.in_ok-office.office.plan c.in_ok-office.office.entries c.in_ok-office.ensures.chart c.in_ok-office.ensures.history c.office_lines.ensures
