use Rattle.std.proofs.Common.{sym, ◌∙◌}
use Rattle.cf_codec.proofs.Sizes.{entry_sized}
use Rattle.cf_codec.proofs.write.payload_len.Goals as goal

pub returns-clause-size : goal.returns-clause-size
returns-clause-size c = c.entry_len.ensures.size ∙ sym (entry_sized c.args.entry.now)
