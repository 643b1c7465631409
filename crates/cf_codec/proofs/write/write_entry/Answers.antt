use Rattle.std.proofs.Common.{arith}
use Rattle.cf_codec.proofs.Sizes.{entry_sized}
use Rattle.cf_codec.proofs.write.write_entry.Goals as goal

pub put_entry-requires-clause-room : goal.put_entry-requires-clause-room
put_entry-requires-clause-room c = omega (arith, c.in-Ok.ensures.ok, c.payload_len.ensures.size, entry_sized c.args.entry.now)
