use Rattle.std.proofs.Common.{◌≡◌, ◌+◌, true, false, get_or, Option, Some, None, is_some, refl, sym, subst, ap, ◌∙◌}
use Rattle.cf_assets.specs.Extents.{IsExtent}
use Rattle.cf_assets.specs.Rows.{view_asset, no_row}
use Rattle.cf_assets.proofs.Finding.{rest, refusal_found}
use Rattle.cf_assets.proofs.Standing.{of_voucher, scan_first, scan_more, scan_last}
use Rattle.cf_model.specs.Common.{Refusal, voided_asset, or_else, first_refusal}
use Rattle.cf_assets.proofs.rules.bought_refusal.Goals as goal

none_is : (r : Option Refusal) → is_some r ≡ false → r ≡ None
none_is None e = refl
none_is (Some r) e = cc

pub loop-at-init : goal.loop-at-init
loop-at-init c =
    let e = c.extent_of-extent.result in
    let n = c.args.voucher in
    let assets = c.args.inventory.now.assets in
    let is : IsExtent n assets e = subst (IsExtent n assets) (sym c.extent_of-extent.ensures) (c.requires n) in
    scan_first (voided_asset c.args.inventory.now.closed) n assets e is

pub returns-then-is_some : goal.returns-then-is_some
returns-then-is_some c =
    let e = c.extent_of-extent.result in
    let n = c.args.voucher in
    let i = c.args.inventory.now in
    let is : IsExtent n i.assets e = subst (IsExtent n i.assets) (sym c.extent_of-extent.ensures) (c.requires n) in
    let d = view_asset no_row in
    let f = voided_asset i.closed in
    let here : c.voided_asset-refusal.result ≡ voided_asset i.closed (get_or i.assets c.loop-at.at d) = c.voided_asset-refusal.ensures ∙ (λ j. voided_asset (c.closed-closed.ensures.value j) (c.row.ensures.is d j)) in
    let some : is_some (voided_asset i.closed (get_or i.assets c.loop-at.at d)) ≡ true = ap is_some (sym here) ∙ sym c.is_some.ensures ∙ c.if-is_some.true in
    here
    ∙ sym (c.loop-at.invariant ∙ scan_more f n i.assets e c.loop-at.at d is c.loop-at.auto.at c.loop-at-test.true ∙ refusal_found (f (get_or i.assets c.loop-at.at d)) (first_refusal f (rest (of_voucher n) (c.loop-at.at + 1) i.assets)) some)

pub loop-at-preserved : goal.loop-at-preserved
loop-at-preserved c =
    let e = c.extent_of-extent.result in
    let n = c.args.voucher in
    let i = c.args.inventory.now in
    let is : IsExtent n i.assets e = subst (IsExtent n i.assets) (sym c.extent_of-extent.ensures) (c.requires n) in
    let d = view_asset no_row in
    let f = voided_asset i.closed in
    let here : c.voided_asset-refusal.result ≡ voided_asset i.closed (get_or i.assets c.loop-at.at d) = c.voided_asset-refusal.ensures ∙ (λ j. voided_asset (c.closed-closed.ensures.value j) (c.row.ensures.is d j)) in
    let none : voided_asset i.closed (get_or i.assets c.loop-at.at d) ≡ None = none_is (voided_asset i.closed (get_or i.assets c.loop-at.at d)) (ap is_some (sym here) ∙ sym c.is_some.ensures ∙ c.if-is_some.false) in
    c.loop-at.invariant ∙ scan_more f n i.assets e c.loop-at.at d is c.loop-at.auto.at c.loop-at-test.true ∙ ap (λ (r : Option Refusal). or_else r (first_refusal f (rest (of_voucher n) (c.loop-at.at + 1) i.assets))) none

pub returns : goal.returns
returns c =
    let e = c.extent_of-extent.result in
    let n = c.args.voucher in
    let i = c.args.inventory.now in
    let is : IsExtent n i.assets e = subst (IsExtent n i.assets) (sym c.extent_of-extent.ensures) (c.requires n) in
    sym (c.loop-at.invariant ∙ scan_last (voided_asset i.closed) n i.assets e c.loop-at.at is c.loop-at-test.false)
