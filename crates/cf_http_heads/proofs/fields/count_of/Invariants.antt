use Rattle.std.proofs.Common.{◌≡◌, ◌+◌, ◌≤◌, map, length, drop}
use Rattle.httparse.specs.Borrowed.{header_parts}
use Rattle.cf_http_heads.specs.Fields.{values_of}
use Rattle.cf_http_heads.proofs.fields.count_of.Given as goal

-- those so far and those in what is left are all
abbrev pub invariant-loop-header : goal.invariant-loop-header
invariant-loop-header l =
    record {
      all : l.count + length (values_of l.name (map header_parts (drop l.header-index l.headers))) ≡ length (values_of l.name (map header_parts l.headers));
      passed : l.count ≤ l.header-index;
    }
