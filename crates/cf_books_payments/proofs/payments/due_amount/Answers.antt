use Rattle.std.proofs.Common.{arith, ◌≡◌, ◌<◌, ◌+◌, ◌-◌, ◌∷◌, ℕ, List, ap, subst, drop, get_or, length, add-one, drop-cons, slice_get}
use Rattle.cf_model.specs.Common.{dues}
use Rattle.cf_books_payments.specs.Payments.{bond_of}
use Rattle.cf_books_payments.specs.Tables.{issue_of}
use Rattle.cf_books_payments.proofs.Noted.{due_behind}
use Rattle.cf_books_payments.proofs.payments.due_amount.Goals as goal

pub loop-nth-init : goal.loop-nth-init
loop-nth-init c = record {
  from = 0;
  before = omega arith;
  behind = let same : c.args.number - 1 - 0 ≡ c.args.number - 1 = omega arith in ap (slice_get (dues (bond_of (issue_of c.args.schedule)))) same;
}

pub loop-nth-preserved : goal.loop-nth-preserved
loop-nth-preserved c =
    let inv = c.loop-nth.invariant in
    let i = c.loop-nth.nth in
    let every = c.args.schedule.terms.now.every in
    let principals = c.args.schedule.terms.now.principals in
    let p = get_or principals i 0 in
    let same : c.as_slice-principal-items.result.now ≡ principals = c.as_slice-principal-items.ensures in
    let there : i < length principals = subst (λ (xs : List ℕ). i < length xs) same c.loop-nth-test.true in
    let below : i < c.args.number - 1 = omega arith in
    let split : drop i principals ≡ p ∷ drop (i + 1) principals = rw add-one (drop-cons principals i 0 there) in
    record {
      from = inv.from + every;
      before = omega arith;
      behind =
          rw (c.saturating_sub-owed.ensures, same)
          (due_behind every inv.from c.loop-nth.owed (c.args.number - 1) i p (drop i principals) (drop (i + 1) principals) _ split below inv.behind);
    }
