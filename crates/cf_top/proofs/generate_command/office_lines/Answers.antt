use Rattle.cf_top.proofs.generate_command.office_lines.Goals as goal

pub returns : goal.returns
returns c = rw (← c.history.ensures.plan, ← c.history.ensures.entries) c.history_lines.ensures
