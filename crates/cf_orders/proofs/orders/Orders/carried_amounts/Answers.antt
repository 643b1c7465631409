use Rattle.std.proofs.Common.{◌≡◌, ℕ, ◌+◌, ◌<◌, List, length, take, get_or, subst, sym, ap, ◌∙◌, arith}
use Rattle.cf_base.proofs.Common.{get_or-replicate, length-replicate, take_all}
use Rattle.cf_model.specs.Common.{carried_to}
use Rattle.cf_orders.specs.declared.rows.ItemRow.{ItemRow}
use Rattle.cf_orders.specs.Carrying.{AreCarried, adds_to}
use Rattle.cf_orders.specs.Register.{Register}
use Rattle.cf_orders.specs.Rows.{view_items}
use Rattle.cf_orders.proofs.Carried.{carried_more}
use Rattle.cf_orders.proofs.orders.Orders.carried_amounts.Goals as goal

pub carry-requires-clause-small : goal.carry-requires-clause-small
carry-requires-clause-small c = λ k l.
    let within : k < length c.args.chart.now.lines = omega (arith, l, c.loop-k.invariant.len) in
    omega (arith, c.loop-k.invariant.most k within, c.count-k-end.ensures, c.loop-k-test.true, c.self.invariant.few_items, c.self.invariant.acts)

pub loop-k-init : goal.loop-k-init
loop-k-init c =
    let same : length c.lines.result.now ≡ length c.args.chart.now.lines = ap length c.lines.ensures.value in
    let zeros = λ (n : ℕ) (l : n < length c.args.chart.now.lines).
    ap (λ (xs : List ℕ). get_or xs n 0) c.in_ok-amounts.ensures ∙ get_or-replicate (length c.lines.result.now) n 0 0 (omega (arith, same, l)) in
    record {
      len = ap length c.in_ok-amounts.ensures ∙ length-replicate (length c.lines.result.now) 0 ∙ same;
      each = zeros;
      most = λ n l. omega (arith, zeros n l);
    }

pub loop-k-preserved : goal.loop-k-preserved
loop-k-preserved c =
    let plan = c.args.chart.now in
    let items = c.self.inside.items.items in
    let within = λ (n : ℕ) (l : n < length plan.lines). let w : n < length c.loop-k.amounts.items = omega (arith, l, c.loop-k.invariant.len) in w in
    let more : c.loop-k.k < length items = omega (arith, c.loop-k-test.true, c.count-k-end.ensures) in
    record {
      len = c.carry.ensures.len ∙ c.loop-k.invariant.len;
      each = λ n l.
          c.carry.ensures.each n (within n l)
          ∙ ap (λ (m : ℕ). m + adds_to plan n c.args.year c.index.result.now) (c.loop-k.invariant.each n l)
          ∙ sym (carried_more plan n c.args.year _ _ items c.loop-k.k c.index.result.now c.self.invariant.rows more c.index.ensures);
      most = λ n l. omega (arith, c.carry.ensures.most n (within n l), c.loop-k.invariant.most n l);
    }

pub returns-clause-carried : goal.returns-clause-carried
returns-clause-carried c =
    let items = c.self.inside.items.items in
    let all : take c.loop-k.k items ≡ items = take_all c.loop-k.k items (omega (arith, c.loop-k-test.false, c.count-k-end.ensures)) in
    subst (λ (r : Register). AreCarried c.args.chart.now c.args.year r.documents.items c.loop-k.amounts.items) c.self.view_is
    (record {
      len = c.loop-k.invariant.len;
      each = λ n l. c.loop-k.invariant.each n l ∙ ap (λ (rs : List ItemRow). carried_to c.args.chart.now n c.args.year (view_items c.self.inside.charges.items rs)) all;
    })

pub returns-clause-small : goal.returns-clause-small
returns-clause-small c = λ n l.
    let within : n < length c.args.chart.now.lines = omega (arith, l, c.loop-k.invariant.len) in
    omega (arith, c.loop-k.invariant.most n within, c.count-k-end.ensures, c.loop-k.auto.k-end, c.self.invariant.few_items, c.self.invariant.acts)
