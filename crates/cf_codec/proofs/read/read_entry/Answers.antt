use Rattle.std.proofs.Common.{arith}
use Rattle.cf_codec.proofs.EntriesExact.{answer_found, answer_of, answer_only}
use Rattle.cf_codec.proofs.read.read_entry.Goals as goal

pub returns-clause-found : goal.returns-clause-found
returns-clause-found c = answer_found c.args.version c.args.bytes.now c.entry_at.result (λ i. omega (arith, c.type_inv.bytes i)) c.entry_at.ensures

pub returns-clause-of : goal.returns-clause-of
returns-clause-of c = answer_of c.args.version c.args.bytes.now c.entry_at.result (λ i. omega (arith, c.type_inv.bytes i)) c.entry_at.ensures

pub returns-clause-only : goal.returns-clause-only
returns-clause-only c = λ e rest has is parts. answer_only c.args.version c.args.bytes.now c.entry_at.result e rest c.entry_at.ensures has is parts
