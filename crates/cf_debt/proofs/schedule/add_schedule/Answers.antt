use Rattle.std.proofs.Common.{◌≡◌, ◌+◌, ◌*◌, ◌∙◌, ℕ, ap, arith, length, slice_index_or}
use Rattle.cf_base.proofs.Common.{length-append, get_or_default}
use Rattle.cf_debt.proofs.Schedules.{built_step}
use Rattle.cf_debt.proofs.schedule.add_schedule.Goals as goal

times : (a b : ℕ) → a * (b + 1) ≡ a * b + a
times a b = omega arith

pub loop-principal-preserved : goal.loop-principal-preserved
loop-principal-preserved c =
    let was = c.loop-principal.invariant in
    let k = c.loop-principal.principal-index in
    let principals = c.args.principals.now in
    let items = c.loop-principal.payments.items in
    record {
      from_is = omega (arith, was.from_is, times c.args.every k);
      room = omega (arith, was.room, c.push_reserved.ensures.capacity, ap length c.push_reserved.ensures.items, length-append items, c.loop-principal-test.true);
      built = rw (c.push_reserved.ensures.items, c.saturating_sub-owed.ensures)
          (built_step items c.args.every c.loop-principal.from c.loop-principal.owed k (slice_index_or principals k 0) principals (omega (arith, c.loop-principal-test.true))
          (get_or_default principals k 0 (slice_index_or principals k 0) (omega (arith, c.loop-principal-test.true))) ∙ was.built);
    }
