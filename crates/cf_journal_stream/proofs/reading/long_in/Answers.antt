use Rattle.std.proofs.Common.{arith}
use Rattle.cf_base.proofs.Common.{be_bytes_8}
use Rattle.cf_journal_stream.proofs.reading.long_in.Goals as goal

pub returns-else-bytes-lt8-clause-value : goal.returns-else-bytes-lt8-clause-value
returns-else-bytes-lt8-clause-value c = be_bytes_8 c.args.bytes.now c.long_of.result (omega arith) (λ i. omega (arith, c.type_inv.bytes i)) c.long_of.ensures
