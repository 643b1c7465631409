use Rattle.std.proofs.Common.{◌≡◌, map, drop}
use Rattle.httparse.specs.Borrowed.{header_parts}
use Rattle.cf_http_heads.specs.Fields.{says_close}
use Rattle.cf_http_heads.proofs.fields.is_closing.Given as goal

abbrev pub invariant-loop-header : goal.invariant-loop-header
invariant-loop-header l = says_close (map header_parts (drop l.header-index l.headers)) ≡ says_close (map header_parts l.headers)
