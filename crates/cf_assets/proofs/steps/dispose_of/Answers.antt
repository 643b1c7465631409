use Rattle.std.proofs.Common.{◌≡◌, ◌+◌, ◌-◌, ◌<◌, inl, inr, length, map, ap, ◌∙◌, arith}
use Rattle.cf_assets.specs.Steps.{disposes}
use Rattle.cf_assets.proofs.Standing.{held_number, disposed_one, disposed_none}
use Rattle.cf_assets.proofs.steps.dispose_of.Goals as goal
use Rattle.cf_assets.proofs.steps.dispose_of.Goals.{else-number-ge1-via-then-number-ge1+else-number-count, else-number-ge1-via-else-number-ge1}

pub dispose_at-requires-clause-held : goal.dispose_at-requires-clause-held
dispose_at-requires-clause-held c =
    let assets = c.args.inventory.now.assets in
    let l : c.args.number - 1 < length assets = omega (arith, c.if-number-ge1.true, c.if-number-count.true, c.count-count.ensures.value) in
    let n : c.args.number ≡ (c.args.number - 1) + 1 = omega (arith, c.if-number-ge1.true) in
    held_number c.args.on c.args.number (c.args.number - 1) assets c.count-count.ensures.numbered l n c.requires.allowed

pub returns-then-number-count-clause-assets : goal.returns-then-number-count-clause-assets
returns-then-number-count-clause-assets c =
    let i = c.args.inventory.now in
    let l : c.args.number - 1 < length i.assets = omega (arith, c.if-number-ge1.true, c.if-number-count.true, c.count-count.ensures.value) in
    let n : c.args.number ≡ (c.args.number - 1) + 1 = omega (arith, c.if-number-ge1.true) in
    disposed_one c.args.number (c.args.number - 1) c.year_of_day-year.result i.closed i.assets c.dispose_at.new.self.assets c.count-count.ensures.numbered l n c.dispose_at.ensures.assets
    ∙ ap (λ y. map (disposes c.args.number y i.closed) i.assets) c.year_of_day-year.ensures.value

pub returns-else-number-ge1-clause-assets : goal.returns-else-number-ge1-clause-assets
returns-else-number-ge1-clause-assets c =
    elim c.else-number-ge1.branch [
      | else-number-ge1-via-then-number-ge1+else-number-count w ↦ disposed_none c.args.number _ c.args.inventory.now.closed c.args.inventory.now.assets c.count-count.ensures.numbered (inr (omega (arith, w.if-number-count.false, c.count-count.ensures.value)))
      | else-number-ge1-via-else-number-ge1 w ↦ disposed_none c.args.number _ c.args.inventory.now.closed c.args.inventory.now.assets c.count-count.ensures.numbered (inl (omega (arith, w.if-number-ge1.false)))
    ]
