use Rattle.std.proofs.Common.{arith, ap, map, refl}
use Rattle.cf_base.proofs.Common.{le-leb}
use Rattle.cf_http.specs.Doors.{gave, none, failed}
use Rattle.cf_http_links.specs.Memory.{read_by}
use Rattle.cf_http_links.proofs.memory.MemDoorDoor.next.Goals as goal

pub returns-then-self-clause-gives : goal.returns-then-self-clause-gives
returns-then-self-clause-gives c = failed _ refl

pub returns-in-Some-clause-gives : goal.returns-in-Some-clause-gives
returns-in-Some-clause-gives c =
    gave c.failing.result (le-leb 1 _ (omega (arith, c.in-Some.ensures.cases)))
    (record { received = c.failing.ensures.received; sent = c.failing.ensures.sent; ended = c.failing.ensures.ended; reads = ap (map (read_by c.failing.result.bytes.items c.failing.result.sent.items)) c.failing.ensures.reads }) refl

pub returns-in-None-clause-gives : goal.returns-in-None-clause-gives
returns-in-None-clause-gives c = none (rw c.in-None.ensures.cases.0 refl) (rw c.in-None.ensures.cases.1 refl) refl
