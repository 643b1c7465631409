use Rattle.std.proofs.Common.{◌≡◌, ◌∙◌, ◌<◌, ◌&&◌, ◌==◌, Some, None, ap, sym, length, take, arith, nat_cmp, fold, option_and_then, slice_get}
use Rattle.cf_base.proofs.Common.{fold_more, get}
use Rattle.cf_books_documents.specs.Events.{is_voucher, voucher_after}
use Rattle.cf_books_documents.proofs.Entering.{get-item, noted_if}
use Rattle.cf_books_documents.proofs.vouchers.vouchers_of.Goals as goal

pub loop-at-preserved : goal.loop-at-preserved
loop-at-preserved c = λ n.
    let entries = c.args.entries.now in
    let i = c.loop-at.at in
    let e = c.index-entries-at.result in
    let below : i < length entries = omega arith in
    let found : slice_get entries i ≡ Some e = get-item entries i e below c.index-entries-at.is in
    ap (option_and_then (slice_get entries)) (c.in_ok-note_voucher.ensures n)
    ∙ noted_if (is_voucher e.change.act && (e.drawn.number == n)) entries i e (get nat_cmp c.loop-at.places n) _ found (c.loop-at.invariant n)
    ∙ ap (λ x. voucher_after n (fold (voucher_after n) None (take i entries)) x) c.index-entries-at.is
    ∙ sym (fold_more (voucher_after n) None entries i e below)
