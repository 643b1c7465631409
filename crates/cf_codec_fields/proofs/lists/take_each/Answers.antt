use Rattle.cf_base.proofs.Common.{err_from_is_err_and}
use Rattle.cf_codec_fields.specs.Formats.{each_at}
use Rattle.cf_codec_fields.proofs.Loop.{goes_on, ends}
use Rattle.cf_codec_fields.proofs.lists.take_each.Goals as goal

pub returns-in_err-item : goal.returns-in_err-item
returns-in_err-item g c =
    let p = err_from_is_err_and c.from_residual-in_err-item.result c.from_residual-in_err-item.ensures.1 in
    rw (p.1, p.2) (ends g.E.Element.format c.in_err-item.field-0.0 c.loop.items.items c.args.count c.loop.counter c.loop.rest.now (each_at g.E.Element.format c.args.count c.args.bytes.now) c.loop-test.true c.in_err-item.ensures c.loop.invariant)

pub loop-preserved : goal.loop-preserved
loop-preserved g c =
    rw c.in_ok-push.ensures.items (goes_on g.E.Element.format c.loop.items.items c.args.count c.loop.counter c.loop.rest.now c.in_ok-item.item c.in_ok-item.after.now (each_at g.E.Element.format c.args.count c.args.bytes.now) c.loop-test.true c.in_ok-item.ensures c.loop.invariant)
