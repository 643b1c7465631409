use Rattle.std.proofs.Common.{append_assoc}
use Rattle.cf_statements.proofs.activities.statement_of_activities.Goals as goal

pub returns : goal.returns
returns g c = rw (c.in_ok-put_rest.ensures, c.in_ok-put_programs.ensures, c.new-rows.ensures.items) (simp append_assoc)
