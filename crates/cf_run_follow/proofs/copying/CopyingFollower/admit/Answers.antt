use Rattle.cf_run_status.specs.Devices.{device}
use Rattle.cf_run_follow.proofs.Admitted.{admits_as}
use Rattle.cf_run_follow.proofs.copying.CopyingFollower.admit.Goals as goal

pub returns-clause-admits : goal.returns-clause-admits
returns-clause-admits g c =
    let b = c.self.inside in
    let d = device g.D.Disk.tells g.D.Disk.content g.D.Disk.is_image g.D.Disk.moment g.D.Disk.was_image g.D.Disk.faults in
    let a = c.admit-said in
    rw (← c.self.view_is) (admits_as d b.book a.new.self c.args.entry c.requires a.ensures.any_moment a.result a.ensures.admits a.ensures.refused a.ensures.memory)
