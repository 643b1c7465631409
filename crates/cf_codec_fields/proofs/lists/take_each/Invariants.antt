use Rattle.std.proofs.Common.{◌≡◌, ◌-◌}
use Rattle.cf_codec_fields.specs.Formats.{each_at}
use Rattle.cf_codec_fields.specs.Readings.{with_front}
use Rattle.cf_codec_fields.proofs.lists.take_each.Given as goal

abbrev pub invariant-loop : goal.invariant-loop
invariant-loop g l = with_front l.items.items (each_at g.E.Element.format (l.count - l.counter) l.rest) ≡ each_at g.E.Element.format l.count l.bytes
