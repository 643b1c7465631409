use Rattle.std.proofs.Common.{◌≡◌, rules}
use Rattle.cf_base.proofs.Common.{signed_decimal}
use Rattle.cf_json_members.proofs.Plain.{signed-plain}
use Rattle.cf_json_members.proofs.parts.put_signed.Goals as goal

pub put_quoted-requires : goal.put_quoted-requires
put_quoted-requires c =
    let text : c.as_bytes.result.now ≡ signed_decimal c.args.n = search rules in
    rw text (signed-plain c.args.n c.ranges.n)
