use Rattle.cf_http_heads.proofs.HeadLaws.{no_head_past, open_whole}
use Rattle.cf_http_heads.proofs.head.read_head.Goals as goal

pub returns-then-text-gt-LONGEST_HEAD : goal.returns-then-text-gt-LONGEST_HEAD
returns-then-text-gt-LONGEST_HEAD c =
    let still = rw (c.in-Open.is, c.split_at.ensures.front) at c.read_short.ensures in
    no_head_past c.args.text.now c.min.result c.min.ensures c.if-text-gt-LONGEST_HEAD.true still.0

pub returns-else-text-gt-LONGEST_HEAD : goal.returns-else-text-gt-LONGEST_HEAD
returns-else-text-gt-LONGEST_HEAD c =
    let still = rw (c.in-Open.is, c.split_at.ensures.front) at c.read_short.ensures in
    open_whole c.args.text.now c.min.result c.min.ensures c.if-text-gt-LONGEST_HEAD.false still.0 still.1
