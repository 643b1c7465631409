use Rattle.std.proofs.Common.{◌≡◌, true, not, cond, get_or, Some, None, sym, ap, ◌∙◌}
use Rattle.cf_base.proofs.Common.{contains}
use Rattle.cf_calls.proofs.Seen.{seen_none, seen_some, apart_none, apart_some, repeats}
use Rattle.cf_calls.proofs.distinct.are_distinct.Goals as goal
use Rattle.cf_calls.proofs.distinct.are_distinct.Goals.{in-Some+in_ok-insert+else-not-branch, in_default}

pub returns-then-not-branch : goal.returns-then-not-branch
returns-then-not-branch g c =
    repeats g.K.PartialEq.eq c.args.keys.now c.loop-key.key-index c.key-item.result c.loop-key-test.true c.in-Some.key (sym c.key-item.is ∙ c.in-Some.is)
    (sym c.if-not-branch.true ∙ c.in_ok-insert.ensures.added ∙ ap not (c.loop-key.invariant.seen c.in-Some.key))

pub loop-key-preserved : goal.loop-key-preserved
loop-key-preserved g c =
    let eq = g.K.PartialEq.eq in
    let keys = c.args.keys.now in
    let i = c.loop-key.key-index in
    let key = c.key-item.result in
    let was = c.loop-key.invariant in
    elim c.match-key.branch [
      | in-Some+in_ok-insert+else-not-branch w ↦
          let is : get_or keys i key ≡ Some w.in-Some.key = sym c.key-item.is ∙ w.in-Some.is in
          record {
            seen = λ q. ap (λ s. contains g.K.Ord.cmp s q) w.seen-is ∙ w.in_ok-insert.ensures.updates.0 q
                ∙ (λ k. cond (sym (g.met.K.Ord.matches_eq w.in-Some.key q) k) true (was.seen q k))
                ∙ sym (seen_some eq keys i key c.loop-key-test.true q w.in-Some.key is);
            apart = apart_some eq keys i key c.loop-key-test.true w.in-Some.key is
                (sym w.if-not-branch.false ∙ w.in_ok-insert.ensures.added ∙ ap not (was.seen w.in-Some.key)) was.apart;
          }
      | in_default w ↦
          let is : get_or keys i key ≡ None = sym c.key-item.is ∙ w.in_default.is in
          record {
            seen = λ q. ap (λ s. contains g.K.Ord.cmp s q) w.seen-is ∙ was.seen q ∙ sym (seen_none eq keys i key c.loop-key-test.true q is);
            apart = apart_none eq keys i key c.loop-key-test.true is was.apart;
          }
    ]
