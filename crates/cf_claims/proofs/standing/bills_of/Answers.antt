use Rattle.std.proofs.Common.{◌∙◌, ◌<◌, ap, sym, None, length, arith}
use Rattle.cf_base.proofs.Common.{fold_more}
use Rattle.cf_claims.specs.Standing.{bill_after}
use Rattle.cf_claims.proofs.standing.bills_of.Goals as goal

pub loop-entry-preserved : goal.loop-entry-preserved
loop-entry-preserved c = λ n small.
    let entries = c.args.entries.now in
    let e = c.entry-item.result in
    let below : c.loop-entry.entry-index < length entries = omega arith in
    c.in_ok-note_bill.ensures n small
    ∙ ap (λ b. bill_after n b e) (c.loop-entry.invariant n small)
    ∙ ap (λ x. bill_after n (Rattle.std.specs.Prelude.fold (bill_after n) None (Rattle.std.proofs.Common.take c.loop-entry.entry-index entries)) x) c.entry-item.is
    ∙ sym (fold_more (bill_after n) None entries c.loop-entry.entry-index e below)
