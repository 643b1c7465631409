use Rattle.std.proofs.Common.{subst}
use Rattle.cf_base.proofs.Common.{All-more}
use Rattle.cf_json_calls.proofs.ItemTexts.{push_item, close_list}
use Rattle.cf_json_calls.proofs.items.put_list.Goals as goal

pub loop-item-preserved : goal.loop-item-preserved
loop-item-preserved g c =
    let items = c.args.items.now in
    let i = c.loop-item.item-index in
    record {
      text =
          push_item g.T.Item.value c.loop-item.out.items c.put_item.new.out.items _ c.loop-item.later items i c.item-item.result c.loop-item-test.true c.item-item.is
          c.in_ok-put_item.ensures.text c.loop-item.invariant.text;
      fits = All-more g.T.Item.fits items i c.item-item.result c.loop-item-test.true c.loop-item.invariant.fits (subst g.T.Item.fits c.item-item.is c.in_ok-put_item.ensures.fits);
    }

pub returns-clause-text : goal.returns-clause-text
returns-clause-text g c =
    close_list g.T.Item.value c.args.out.now.items c.push.new.self.items c.loop-item.out.items c.push-2.new.self.items c.loop-item.later c.args.items.now c.loop-item.item-index c.loop-item-test.false
    c.in_ok-push.ensures.items c.loop-item.invariant.text c.in_ok-push-2.ensures.items
