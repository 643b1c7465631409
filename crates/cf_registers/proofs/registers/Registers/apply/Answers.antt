use Rattle.std.proofs.Common.{◌≡◌, ◌≤◌, ◌+◌, ◌++◌, None, map, refl, sym, ap, subst, ◌∙◌}
use Rattle.cf_debt.specs.Register.{Debts}
use Rattle.cf_model.specs.Common.{bond_step, bonds_by, Documents, draws_voucher, leave_by, number_of_day, asset_refusal, Registers, closed_after, registers_step, draws}
use Rattle.cf_revenue.proofs.Levied.{levied_by_rule}
use Rattle.cf_registers.specs.RegistersView.{registers_state}
use Rattle.cf_registers.proofs.Taken.{asset_same, early_issue, next_assets, next_bills, next_bonds, next_documents}
use Rattle.cf_registers.proofs.registers.Registers.apply.Goals as goal

pub apply-requires-clause-drawn : goal.apply-requires-clause-drawn
apply-requires-clause-drawn c =
    let e = c.args.entry.now in
    let s = (registers_state c.self.inside).registers in
    let drawn : e.drawn ≡ draws s e.change.act = rw (← c.self.view_is) at c.requires.drawn in
    next_documents s e.change.act e.drawn drawn

pub apply-requires-2-clause-levied : goal.apply-requires-2-clause-levied
apply-requires-2-clause-levied c =
    let s = registers_state c.self.inside in
    levied_by_rule c.args.chart.now s.registers c.args.entry.now.change.on c.args.entry.now.change.act (rw (← c.self.view_is) at c.requires.levied)

pub apply-requires-2-clause-drawn : goal.apply-requires-2-clause-drawn
apply-requires-2-clause-drawn c =
    let e = c.args.entry.now in
    let s = (registers_state c.self.inside).registers in
    let drawn : e.drawn ≡ draws s e.change.act = rw (← c.self.view_is) at c.requires.drawn in
    next_bills s c.self.inside.revenue e.change.act e.drawn refl drawn

pub apply-requires-3-clause-allowed : goal.apply-requires-3-clause-allowed
apply-requires-3-clause-allowed c s of =
    let e = c.args.entry.now in
    let here : asset_refusal (registers_state c.self.inside).registers e.change.on e.change.act ≡ None = rw (← c.self.view_is) at c.requires.assets in
    asset_same s (registers_state c.self.inside).registers e.change.on e.change.act of.assets of.closed ∙ here

pub apply-requires-3-clause-drawn : goal.apply-requires-3-clause-drawn
apply-requires-3-clause-drawn c =
    let e = c.args.entry.now in
    let s = (registers_state c.self.inside).registers in
    let drawn : e.drawn ≡ draws s e.change.act = rw (← c.self.view_is) at c.requires.drawn in
    next_assets s c.self.inside.assets e.change.act e.drawn (record { assets = refl; closed = refl }) c.self.invariant.vouchers drawn

pub apply-requires-4-clause-early : goal.apply-requires-4-clause-early
apply-requires-4-clause-early c =
    let e = c.args.entry.now in
    let s = (registers_state c.self.inside).registers in
    let early : s.closed ≤ number_of_day c.args.chart.now e.change.on = rw (← c.self.view_is) at c.requires.early in
    early_issue c.args.chart.now c.self.inside.debt.debts e.change.on e.change.act (subst (λ n. n ≤ number_of_day c.args.chart.now e.change.on) (sym c.self.invariant.closed) early)

pub apply-requires-4-clause-drawn : goal.apply-requires-4-clause-drawn
apply-requires-4-clause-drawn c =
    let e = c.args.entry.now in
    let s = (registers_state c.self.inside).registers in
    let drawn : e.drawn ≡ draws s e.change.act = rw (← c.self.view_is) at c.requires.drawn in
    next_bonds s c.self.inside.debt e.change.act e.drawn refl drawn

pub returns-clause-registers : goal.returns-clause-registers
returns-clause-registers c =
    let plan = c.args.chart.now in
    let e = c.args.entry.now in
    let s = (registers_state c.self.inside).registers in
    let documents = c.apply.ensures.documents in
    let receivables = c.apply-2.ensures.receivables in
    let assets = c.apply-3.ensures.assets in
    let bonds : c.apply-4.new.self.debts.bonds ≡ map (bond_step e.change.act) s.bonds ++ bonds_by plan e.change.on e.change.act e.drawn = ap (λ (d : Debts). d.bonds) c.apply-4.ensures.debts in
    let leave : c.apply-4.new.self.debts.leave ≡ s.leave ++ leave_by plan e.change.on e.change.act = ap (λ (d : Debts). d.leave) c.apply-4.ensures.debts in
    let closed = c.apply-3.ensures.closed in
    let now : (let r : Registers = record {
      documents = c.apply.new.self.documents;
      receivables = c.apply-2.new.self.receivables;
      assets = c.apply-3.new.self.assets;
      bonds = c.apply-4.new.self.debts.bonds;
      leave = c.apply-4.new.self.debts.leave;
      closed = c.apply-3.new.self.closed;
    } in r) ≡ registers_step plan s e =
    λ i. record { documents = documents i; receivables = receivables i; assets = assets i; bonds = bonds i; leave = leave i; closed = closed i } in
    rw (← c.self.view_is) now

pub invariant_of-self : goal.invariant_of-self
invariant_of-self c =
    let act = c.args.entry.now.change.act in
    record {
      closed = ap (λ (d : Debts). d.closed) c.apply-4.ensures.debts ∙ ap (closed_after act) c.self.invariant.closed ∙ sym c.apply-3.ensures.closed;
      vouchers = c.apply-3.ensures.vouchers ∙ ap (λ n. n + draws_voucher act) c.self.invariant.vouchers ∙ sym (ap (λ (d : Documents). d.vouchers) c.apply.ensures.documents);
    }
