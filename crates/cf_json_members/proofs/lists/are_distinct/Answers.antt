use Rattle.std.proofs.Common.{◌≡◌, map, ap, sym, ◌∙◌}
use Rattle.cf_base.proofs.Common.{take_all}
use Rattle.cf_calls.specs.Common.{is_distinct}
use Rattle.cf_calls.specs.Keys.{same_key}
use Rattle.cf_calls.proofs.Keys.{distinct_map}
use Rattle.cf_json_members.proofs.lists.are_distinct.Goals as goal

pub returns : goal.returns
returns g c =
    let items = c.args.items.now in
    let same = same_key g.T.Key.PartialEq.eq in
    let keys_are : c.as_slice.result.now ≡ map g.T.Item.key items =
    c.as_slice.ensures.value ∙ c.loop-item.invariant ∙ ap (map g.T.Item.key) (take_all c.loop-item.item-index items c.loop-item-test.false) in
    let is : is_distinct g.T.Item.clash items ≡ is_distinct same c.as_slice.result.now =
    distinct_map g.T.Item.clash same g.T.Item.key g.met.T.Item.clash_by_key items ∙ ap (is_distinct same) (sym keys_are) in
    rw is c.are_distinct.ensures
