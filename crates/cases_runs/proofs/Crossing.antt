-- The callers of a hall may be shared.
use denote.Param.Send.{IsSend, IsSync, sendable}
use Rattle.cf_base.proofs.Common.{crosses}
use Rattle.cases_runs.specs.contracts.halls.caller.Step as step
use Rattle.cases_runs.specs.contracts.halls.caller.Caller as caller
use Rattle.cases_runs.specs.contracts.halls.hall.Table as table

pub step_send : IsSend step.the_row
step_send = search (sendable, crosses) depth 20

pub caller_send : IsSend caller.the_row
caller_send = search (step_send, sendable, crosses) depth 20

pub table_sync : IsSync table.the_row
table_sync = search (caller_send, sendable, crosses) depth 20
