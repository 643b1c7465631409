use Rattle.std.proofs.Common.{◌∙◌, sym, ap, length, pos}
use Rattle.cf_base.proofs.Common.{length-replicate}
use Rattle.cf_ledger.proofs.PlaceRows.{put_reads, put_keeps, put_counted, zeros_read}
use Rattle.cf_ledger.proofs.places.reserve_at.Goals as goal

pub returns-clause-keeps : goal.returns-clause-keeps
returns-clause-keeps c = put_keeps _ _ c.args.place.fund c.args.place.account c.in_ok-cells.cells (put_reads _ _ c.args.place _ c.in_ok-insert.ensures.updates.0)

pub returns-clause-same : goal.returns-clause-same
returns-clause-same c = zeros_read _ _ c.args.place.fund c.args.place.account c.in_ok-cells.cells (put_reads _ _ c.args.place _ c.in_ok-insert.ensures.updates.0) c.in_ok-cells.ensures (sym c.contains_key.ensures ∙ c.if-contains_key.false)

pub returns-clause-counted : goal.returns-clause-counted
returns-clause-counted c =
    put_counted _ _ c.args.place.fund c.args.place.account c.in_ok-cells.cells (put_reads _ _ c.args.place _ c.in_ok-insert.ensures.updates.0)
    (ap length c.in_ok-cells.ensures ∙ length-replicate 231 (pos 0)) c.requires.counted
