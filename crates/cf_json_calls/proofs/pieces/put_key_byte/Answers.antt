use Rattle.std.proofs.Common.{arith, leb-true, nat_le}
use Rattle.cf_base.proofs.Common.{and_parts}
use Rattle.json.proofs.Printed.Strings.{escape_byte_plain}
use Rattle.cf_json_calls.proofs.pieces.put_key_byte.Goals as goal

pub returns : goal.returns
returns c =
    let test = and_parts (nat_le 33 c.args.byte) (nat_le c.args.byte 126) c.requires in
    let above = leb-true 33 c.args.byte test.0 in
    rw (escape_byte_plain c.args.byte c.if-byte-eq34.false c.if-byte-eq92.false (omega arith)) c.in_ok-push.ensures.items
