use Rattle.std.proofs.Common.{arith}
use Rattle.cf_base.proofs.Common.{common_steps}
use Rattle.cf_register_parts.proofs.PairFacts.{put_reads, put_keeps, reserved_same}
use Rattle.cf_register_parts.proofs.pairs.reserve_in.Goals as goal

pub returns-clause-keeps : goal.returns-clause-keeps
returns-clause-keeps g c =
    put_keeps _ _ c.args.pair.first c.args.pair.second c.args.none (put_reads _ _ c.args.pair c.args.none c.in_ok-insert.ensures.updates.0)

pub returns-clause-same : goal.returns-clause-same
returns-clause-same g c = reserved_same c.args.none _ _ c.args.pair (grind (arith, common_steps)) c.in_ok-insert.ensures.updates.0
