use Rattle.cf_office_history.proofs.Added.{ready_posts}
use Rattle.cf_office_history.proofs.rest.Rest.posts.Goals as goal

pub returns : goal.returns
returns c = rw (← c.self.view_is) (ready_posts c.args.basis c.self.inside c.self.inside.ready _ c.self.invariant.registers c.ready_posts.ensures c.self.invariant.ready)
