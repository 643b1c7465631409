use Rattle.cf_hall_names.specs.Telling.{Tells}
use Rattle.cf_serve_laws.proofs.Clerking.{answers_call, lost_call}
use Rattle.cf_serve.proofs.clerk.Clerk.answer_call.Goals as goal

pub returns-clause-ok : goal.returns-clause-ok
returns-clause-ok g c =
    let tells : Tells g.N.City.plan c.args.self.now c.post-given.new.pass c.args.call c.post-given.result = rw c.self.view_is at c.post-given.ensures in
    answers_call g.N.City.plan c.args.self.now c.post-given.new.pass c.args.call c.write_given.result c.post-given.result c.args.out.now.items c.write_given.new.out.items
    tells c.write_given.ensures.code c.write_given.ensures.written c.write_given.ensures.text

pub returns-clause-memory : goal.returns-clause-memory
returns-clause-memory g c =
    let tells : Tells g.N.City.plan c.args.self.now c.post-given.new.pass c.args.call c.post-given.result = rw c.self.view_is at c.post-given.ensures in
    lost_call g.N.City.plan c.args.self.now c.post-given.new.pass c.args.call c.requires.form c.write_given.result c.post-given.result tells c.write_given.ensures.memory
