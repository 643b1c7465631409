use Rattle.std.proofs.Common.{refl, []}
use Rattle.cf_serve_laws.specs.Clerks.{unread}
use Rattle.cf_serve_laws.proofs.Clerking.{fault_is, answered_call, memory_call, unread_is, answered_form}
use Rattle.cf_serve.proofs.clerk.ClerkAnswer.answer.Goals as goal

pub returns-in_err-reserve-clause-memory : goal.returns-in_err-reserve-clause-memory
returns-in_err-reserve-clause-memory g c = unread_is g.N.City.plan c.args.self.now c.args.request.now c.from_residual.result

pub returns-in-Ok-clause-ok : goal.returns-in-Ok-clause-ok
returns-in-Ok-clause-ok g c =
    answered_call g.N.City.plan c.args.self.now c.answer_call.new.self c.args.request.now c.answer_call.result c.in-Ok.call c.args.out.now.items c.reserve.new.self.items c.answer_call.new.out.items
    c.in-Ok.ensures.call c.reserve.ensures.items c.answer_call.ensures.ok

pub returns-in-Ok-clause-memory : goal.returns-in-Ok-clause-memory
returns-in-Ok-clause-memory g c = memory_call g.N.City.plan c.args.self.now c.answer_call.new.self c.args.request.now c.answer_call.result c.in-Ok.call c.in-Ok.ensures.call c.answer_call.ensures.memory

pub returns-in-Err-Form-clause-ok : goal.returns-in-Err-Form-clause-ok
returns-in-Err-Form-clause-ok g c =
    answered_form g.N.City.plan c.args.self.now c.args.request.now c.write_fault.result c.in-Err-Form.fault c.args.out.now.items c.reserve.new.self.items c.write_fault.new.out.items
    (fault_is g.N.City.plan c.args.self.now c.args.self.now c.args.request.now c.in-Err-Form.field-0 c.in-Err-Form.fault c.in-Err-Form.field-0-is c.in-Err-Form.ensures.call)
    c.reserve.ensures.items c.write_fault.ensures.code c.write_fault.ensures.text

pub returns-in-Err-Form-clause-memory : goal.returns-in-Err-Form-clause-memory
returns-in-Err-Form-clause-memory g c = unread_is g.N.City.plan c.args.self.now c.args.request.now c.write_fault.result

pub returns-in-Err-NoMemory-clause-memory : goal.returns-in-Err-NoMemory-clause-memory
returns-in-Err-NoMemory-clause-memory g c = ([], unread, refl)
