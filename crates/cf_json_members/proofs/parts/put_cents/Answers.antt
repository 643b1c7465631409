use Rattle.std.proofs.Common.{arith}
use Rattle.cf_json_members.proofs.Plain.{decimal-plain}
use Rattle.cf_json_members.proofs.parts.put_cents.Goals as goal

pub put_quoted-requires : goal.put_quoted-requires
put_quoted-requires c = rw (c.as_bytes.ensures.value, c.format.ensures.text) (decimal-plain c.args.n (omega arith))
