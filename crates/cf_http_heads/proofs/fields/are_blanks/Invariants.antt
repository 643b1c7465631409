use Rattle.std.proofs.Common.{◌≡◌, drop}
use Rattle.cf_base.proofs.Common.{list_all}
use Rattle.httparse.specs.Grammar.{is_ows}
use Rattle.cf_http_heads.proofs.fields.are_blanks.Given as goal

abbrev pub invariant-loop-byte : goal.invariant-loop-byte
invariant-loop-byte l = list_all is_ows (drop l.byte-index l.text) ≡ list_all is_ows l.text
