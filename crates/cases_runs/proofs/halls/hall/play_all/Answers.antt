use denote.Param.Send.{sendable}
use Rattle.cf_hall.proofs.Sending.{pass_send, shared_sync}
use Rattle.cases_runs.proofs.Crossing.{table_sync}
use Rattle.cases_runs.proofs.halls.hall.play_all.Goals as goal

pub for_each_mut-requires-send-T : goal.for_each_mut-requires-send-T
for_each_mut-requires-send-T g c κs within = search (sendable, pass_send) depth 20

pub for_each_mut-requires-sync-F : goal.for_each_mut-requires-sync-F
for_each_mut-requires-sync-F g c κs within = search (sendable, shared_sync, table_sync) depth 20
