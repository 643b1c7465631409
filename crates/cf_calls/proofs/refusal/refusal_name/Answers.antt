use Rattle.std.proofs.Common.{[], ◌-◌, ◌≤◌, length, sym, arith}
use Rattle.cf_base.proofs.Common.{get_or-eq_default}
use Rattle.cf_calls.specs.Common.{refusal_names}
use Rattle.cf_calls.proofs.refusal.refusal_name.Goals as goal

pub returns-in_default-clause-value : goal.returns-in_default-clause-value
returns-in_default-clause-value c =
    let far : length refusal_names ≤ c.args.number - 1 = omega arith in
    sym (get_or-eq_default refusal_names [] {n = c.args.number - 1} far)
