use Rattle.std.proofs.Common.{◌≡◌, subst, IfOk}
use Rattle.cf_chart.specs.Common.{Plan}
use Rattle.cf_model.specs.Common.{Registers}
use Rattle.cf_registers.specs.RegistersState.{register_shown}
use Rattle.cf_office_looks.proofs.looks.look_at.Goals as goal

pub returns : goal.returns
returns c =
    let by_plan = subst (λ (p : Plan). IfOk c.look.result (λ s. s ≡ register_shown p c.registers.result.now.registers c.args.read.now)) c.chart.ensures.value c.look.ensures in
    subst (λ (s : Registers). IfOk c.look.result (λ x. x ≡ register_shown c.args.history.now.plan s c.args.read.now)) c.registers.ensures by_plan
