use Rattle.std.proofs.Common.{◌≡◌, map, ap, sym, ◌∙◌}
use Rattle.cf_base.proofs.Common.{take_all}
use Rattle.cf_calls.specs.Common.{is_distinct}
use Rattle.cf_calls.specs.Keys.{same_key}
use Rattle.cf_calls.proofs.Keys.{distinct_map}
use Rattle.cf_codec_fields.proofs.lists.are_distinct.Goals as goal

pub returns : goal.returns
returns g c =
    let items = c.args.items.now in
    let same = same_key g.E.Key.PartialEq.eq in
    let keys_are : c.as_slice.result.now ≡ map g.E.DistinctElement.key items =
    c.as_slice.ensures.value ∙ c.loop-item.invariant ∙ ap (map g.E.DistinctElement.key) (take_all c.loop-item.item-index items c.loop-item-test.false) in
    let is : is_distinct g.E.DistinctElement.clash items ≡ is_distinct same c.as_slice.result.now =
    distinct_map g.E.DistinctElement.clash same g.E.DistinctElement.key g.met.E.DistinctElement.clash_by_key items ∙ ap (is_distinct same) (sym keys_are) in
    rw is c.are_distinct.ensures
