use Rattle.std.proofs.Common.{arith}
use Rattle.cf_codec.proofs.EntriesExact.{rest_within, left_within}
use Rattle.cf_codec.proofs.read.entry_at.Goals as goal

pub overflow_sub-result : goal.overflow_sub-result
overflow_sub-result c = rest_within c.args.version c.args.bytes.now c.in-Ok.entry c.in-Ok.rest.now (λ i. omega (arith, c.type_inv.bytes i)) c.in-Ok.ensures

pub overflow_sub-offset : goal.overflow_sub-offset
overflow_sub-offset c =
    let read = rw c.in-Err-Faulty.field-0-is at c.in-Err-Faulty.ensures in
    left_within c.args.version c.args.bytes.now c.in-Err-Faulty.left (λ i. omega (arith, c.type_inv.bytes i)) read
