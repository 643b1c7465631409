use Rattle.std.proofs.Common.{length, refl, sym, subst, ap, ◌∙◌, arith}
use Rattle.cf_assets.specs.Extents.{IsExtent}
use Rattle.cf_assets.specs.Steps.{voids}
use Rattle.cf_assets.proofs.Standing.{length-step, void_first, void_last, void_next, can_void}
use Rattle.cf_assets.proofs.steps.void_all.Goals as goal

pub loop-at-init : goal.loop-at-init
loop-at-init c =
    let e = c.extent_of-extent.result in
    let n = c.args.voucher in
    let assets = c.args.inventory.now.assets in
    let is : IsExtent n assets e = subst (IsExtent n assets) (sym c.extent_of-extent.ensures) (c.requires.extents n) in
    record { assets = sym (void_first n assets e is); closed = refl }

pub void_one-requires-clause-within : goal.void_one-requires-clause-within
void_one-requires-clause-within c =
    let e = c.extent_of-extent.result in
    let n = c.args.voucher in
    let assets = c.args.inventory.now.assets in
    let is : IsExtent n assets e = subst (IsExtent n assets) (sym c.extent_of-extent.ensures) (c.requires.extents n) in
    omega (arith, ap length c.loop-at.invariant.assets, length-step c.loop-at.at (voids n) assets, is.within, c.loop-at-test.true)

pub void_one-requires-clause-allowed : goal.void_one-requires-clause-allowed
void_one-requires-clause-allowed c =
    let e = c.extent_of-extent.result in
    let n = c.args.voucher in
    let i = c.args.inventory.now in
    let is : IsExtent n i.assets e = subst (IsExtent n i.assets) (sym c.extent_of-extent.ensures) (c.requires.extents n) in
    can_void n c.loop-at.at i.assets c.loop-at.inventory i.closed e is c.loop-at.auto.at c.loop-at-test.true c.requires.allowed c.loop-at.invariant.assets c.loop-at.invariant.closed

pub loop-at-preserved : goal.loop-at-preserved
loop-at-preserved c =
    let e = c.extent_of-extent.result in
    let n = c.args.voucher in
    let i = c.args.inventory.now in
    let is : IsExtent n i.assets e = subst (IsExtent n i.assets) (sym c.extent_of-extent.ensures) (c.requires.extents n) in
    record {
      assets = void_next n c.loop-at.at i.assets c.loop-at.inventory.assets c.void_one.new.inventory.assets e is c.loop-at.auto.at c.loop-at-test.true c.loop-at.invariant.assets c.void_one.ensures.assets;
      closed = c.void_one.ensures.closed ∙ c.loop-at.invariant.closed;
    }

pub returns-clause-assets : goal.returns-clause-assets
returns-clause-assets c =
    let e = c.extent_of-extent.result in
    let n = c.args.voucher in
    let i = c.args.inventory.now in
    let is : IsExtent n i.assets e = subst (IsExtent n i.assets) (sym c.extent_of-extent.ensures) (c.requires.extents n) in
    c.loop-at.invariant.assets ∙ void_last n c.loop-at.at i.assets e is c.loop-at-test.false
