use Rattle.std.proofs.Common.{◌≡◌, ◌+◌, ◌≤◌, ◌++◌, drop, vec_len, vec_capacity}
use Rattle.cf_codec_fields.specs.Formats.{each_size, each_bytes, each_fits}
use Rattle.cf_codec_fields.proofs.lists.put_each.Given as goal

abbrev pub invariant-loop-item : goal.invariant-loop-item
invariant-loop-item g l = record {
  text : l.out.items ++ each_bytes g.E.Element.format (drop l.item-index l.items) ≡ l.initial.out.items ++ each_bytes g.E.Element.format l.items;
  longer : vec_len l.out + each_size g.E.Element.format (drop l.item-index l.items) ≡ vec_len l.initial.out + each_size g.E.Element.format l.items;
  fits : each_fits g.E.Element.format (drop l.item-index l.items) → each_fits g.E.Element.format l.items;
  capacity : vec_capacity l.initial.out ≤ vec_capacity l.out;
}
