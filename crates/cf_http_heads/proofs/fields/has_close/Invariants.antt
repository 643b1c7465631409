use Rattle.std.proofs.Common.{◌≡◌, length}
use Rattle.cf_base.proofs.Common.{list_any}
use Rattle.cf_http_heads.specs.Fields.{elements, is_close}
use Rattle.cf_http_heads.proofs.fields.has_close.Given as goal

abbrev pub invariant-loop-place : goal.invariant-loop-place
invariant-loop-place l = list_any is_close (elements l.rest) ≡ list_any is_close (elements l.value)

abbrev pub decreases-loop-place : goal.decreases-loop-place
decreases-loop-place l = length l.rest
