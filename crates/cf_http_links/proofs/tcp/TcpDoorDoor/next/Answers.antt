use Rattle.std.proofs.Common.{◌+◌, ap, refl}
use Rattle.cf_http.specs.Doors.{gave, failed}
use Rattle.cf_http_links.proofs.tcp.TcpDoorDoor.next.Goals as goal

pub returns-in-Some-clause-gives : goal.returns-in-Some-clause-gives
returns-in-Some-clause-gives g c = gave _ refl (record { received = tt; sent = tt; ended = refl; reads = tt }) (ap (λ n. n + 1) c.listen.ensures.given)

pub returns-in_default-clause-gives : goal.returns-in_default-clause-gives
returns-in_default-clause-gives g c = failed _ c.listen.ensures.given
