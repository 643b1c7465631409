use Rattle.cf_top.proofs.Generating.{same_lines}
use Rattle.cf_top.proofs.generate_command.history_lines.Goals as goal

pub returns : goal.returns
returns c = same_lines c.total_lines.result c.len.result _ c.recon.result _ c.len.ensures.value c.recon.ensures c.total_lines.ensures
