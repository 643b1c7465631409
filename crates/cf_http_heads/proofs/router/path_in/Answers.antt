use Rattle.std.proofs.Common.{sym, arith}
use Rattle.cf_base.proofs.Common.{split_once_first, take_all}
use Rattle.cf_http_heads.proofs.router.path_in.Goals as goal

pub returns-in-Some : goal.returns-in-Some
returns-in-Some c = (rw c.in-Some.is at (split_once_first 63 c.args.target.now c.split_once.result c.split_once.ensures.cases (omega arith))).1

pub returns-in-None : goal.returns-in-None
returns-in-None c =
    let none = rw c.in-None.is at (split_once_first 63 c.args.target.now c.split_once.result c.split_once.ensures.cases (omega arith)) in
    sym (take_all _ c.args.target.now (omega (arith, none)))
