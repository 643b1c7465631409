use Rattle.cf_base.proofs.Common.{on_ok_weaker}
use Rattle.cf_json_calls.proofs.RoundTrip.{call_of-call_text}
use Rattle.cf_json_calls.proofs.line.write_call.Goals as goal

pub returns-clause-call : goal.returns-clause-call
returns-clause-call c = on_ok_weaker c.put_call.result (call_of-call_text c.args.change.now c.requires) c.put_call.ensures.fits
