use Rattle.std.proofs.Common.{sym, ◌∙◌}
use Rattle.cf_codec_fields.proofs.Keys.{key-utf8}
use Rattle.cf_codec_fields.proofs.take.take_key.Goals as goal

pub returns-in-Err : goal.returns-in-Err
returns-in-Err c = absurd (c.in-Err.ensures.cases.0 (key-utf8 _ (sym c.is_key_text.ensures ∙ c.if-not-is_key_text.false)))
