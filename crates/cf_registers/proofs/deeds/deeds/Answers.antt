use Rattle.std.proofs.Common.{◌≡◌, sym, ap, ◌∙◌, Vec, Global}
use Rattle.cf_base.proofs.Common.{IfOk-weaker}
use Rattle.cf_calls.specs.declared.acts.Act.TheVariants as act
use Rattle.cf_model.specs.Common.{deeds_of, Registers}
use Rattle.cf_post.specs.declared.deed.Deed.{Deed}
use Rattle.cf_registers.proofs.deeds.deeds.Goals as goal

pub returns-in-Leave : goal.returns-in-Leave
returns-in-Leave c =
    let plan = c.args.chart.now in
    let s = c.args.registers.now.registers in
    IfOk-weaker _ _ _ (λ (v : Vec Deed Global) (is : (t : Registers) → v.items ≡ deeds_of plan t c.args.on (act.Leave c.in-Leave.what)). is s ∙ ap (deeds_of plan s c.args.on) (sym c.in-Leave.is)) c.leave.ensures
