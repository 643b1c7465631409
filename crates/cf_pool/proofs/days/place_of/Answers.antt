use Rattle.std.proofs.Common.{rules, ◌∙◌}
use Rattle.cf_base.proofs.Common.{answers_always}
use Rattle.cf_pool.proofs.Places.{searched}
use Rattle.cf_pool.proofs.days.place_of.Goals as goal

-- the closure gives a fund's id
pub returns : goal.returns
returns c =
    let facts = c.binary_search_by_key.ensures in
    let by_id = facts.position (λ f. f.id) (answers_always _ _ _ (λ f a r g called. search rules)) in
    c.ok.ensures.value ∙ searched (λ f. f.id) c.args.funds.now c.args.id _ c.requires facts.bound by_id
