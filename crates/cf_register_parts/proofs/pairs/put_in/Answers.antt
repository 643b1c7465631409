use Rattle.std.proofs.Common.{arith}
use Rattle.cf_base.proofs.Common.{common_steps}
use Rattle.cf_register_parts.proofs.PairFacts.{put_reads, put_keeps}
use Rattle.cf_register_parts.proofs.pairs.put_in.Goals as goal

pub returns-in-Some : goal.returns-in-Some
returns-in-Some g c =
    let puts = put_reads _ _ c.args.pair c.args.value (λ q. grind (arith, common_steps)) in
    record { value = puts; keeps = put_keeps _ _ c.args.pair.first c.args.pair.second c.args.value puts }
