use Rattle.std.proofs.Common.{◌≡◌, map, drop}
use Rattle.httparse.specs.Borrowed.{header_parts}
use Rattle.cf_http_heads.specs.Fields.{values_of}
use Rattle.cf_http_heads.proofs.fields.first_of.Given as goal

abbrev pub invariant-loop-header : goal.invariant-loop-header
invariant-loop-header l = values_of l.name (map header_parts (drop l.header-index l.headers)) ≡ values_of l.name (map header_parts l.headers)
