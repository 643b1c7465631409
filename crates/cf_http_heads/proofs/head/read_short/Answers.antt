use Rattle.std.proofs.Common.{arith}
use Rattle.cf_http_heads.proofs.HeadLaws.{length_fields, many_overflow}
use Rattle.cf_http_heads.proofs.head.read_short.Goals as goal

pub returns-then-request-gt-MOST_FIELDS : goal.returns-then-request-gt-MOST_FIELDS
returns-then-request-gt-MOST_FIELDS c =
    let h = rw (c.in-Ok-Complete.is, c.in-Ok-Complete.field-0-is) at c.parse.ensures.complete in
    many_overflow c.args.text.now h.0 _ h.1.reads (omega (arith, length_fields _ h.0 h.1.fields, c.if-request-gt-MOST_FIELDS.true))
