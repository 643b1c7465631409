use Rattle.std.proofs.Common.{◌≡◌, ◌+◌, ◌*◌, ◌≤◌, drop}
use Rattle.cf_codec_fields.specs.Formats.{each_size}
use Rattle.cf_codec_fields.proofs.lists.list_len.Given as goal

abbrev pub invariant-loop-item : goal.invariant-loop-item
invariant-loop-item g l = record {
  whole : l.len + each_size g.E.Element.format (drop l.item-index l.items) ≡ 2 + each_size g.E.Element.format l.items;
  small : l.len ≤ 2 + 255 * l.item-index;
}
