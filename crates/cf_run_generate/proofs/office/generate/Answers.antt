use Rattle.std.proofs.Common.{◌∙◌, sym}
use Rattle.cf_run_generate.specs.Generated.{after, calls}
use Rattle.cf_run_generate.proofs.office.generate.Goals as goal

pub returns-clause-history : goal.returns-clause-history
returns-clause-history c = c.in_ok-take_calls.ensures.ok ∙ (λ j. after (sym c.take_calls.ensures.plan j) (c.new-office.ensures.empty j) (calls c.args.n))
