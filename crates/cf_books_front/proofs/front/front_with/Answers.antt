use Rattle.cf_books_front.proofs.Fronts.{has_all, has_first}
use Rattle.cf_books_front.proofs.front.front_with.Goals as goal

pub returns-in-Ok-front_of-clause-first : goal.returns-in-Ok-front_of-clause-first
returns-in-Ok-front_of-clause-first c = has_first c.args.n c.args.bytes.now c.in-Ok-front_of.front.items c.in-Ok.whole c.in-Ok.ensures.answer c.in-Ok.ensures.lies c.in-Ok-front_of.ensures

pub returns-in-Ok-front_of-clause-all : goal.returns-in-Ok-front_of-clause-all
returns-in-Ok-front_of-clause-all c = has_all c.args.n c.args.bytes.now c.in-Ok-front_of.front.items c.in-Ok.whole c.in-Ok.ensures.answer c.in-Ok.ensures.lies c.in-Ok-front_of.ensures
