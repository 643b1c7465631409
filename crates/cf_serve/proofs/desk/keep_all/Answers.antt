use denote.Param.Send.{sendable}
use Rattle.cf_serve.proofs.Sending.{served_send}
use Rattle.cf_serve.proofs.desk.keep_all.Goals as goal

pub for_each_mut-requires-send-T : goal.for_each_mut-requires-send-T
for_each_mut-requires-send-T g c κs within = search (sendable, served_send) depth 20
