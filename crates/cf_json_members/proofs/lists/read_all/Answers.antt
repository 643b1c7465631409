use Rattle.cf_base.proofs.Common.{All-push}
use Rattle.cf_json_members.proofs.Items.{read_more}
use Rattle.cf_json_members.proofs.lists.read_all.Goals as goal

pub loop-value-preserved : goal.loop-value-preserved
loop-value-preserved g c = (
  read_more g.T.FieldKind.kind c.args.values.now c.loop-value.value-index c.value-item.result c.loop-value.items.items c.push.new.self.items c.in-Some.item _
      c.loop-value-test.true c.value-item.is c.in-Some.ensures.answer c.in_ok-push-in-Some.ensures.items c.loop-value.invariant.0,
  rw c.in_ok-push-in-Some.ensures.items (All-push g.T.FieldKind.fits c.loop-value.items.items c.in-Some.item c.loop-value.invariant.1 c.in-Some.ensures.form),
)
