use Rattle.std.proofs.Common.{◌≡◌, map, ap, rules}
use Rattle.cf_serve.specs.HallServes.{DiskTells}
use Rattle.cf_journal_book.specs.declared.refused.BookRefused.TheVariants as refused
use Rattle.cf_serve.proofs.Ending.{hall_served, was_opened}
use Rattle.cf_serve.proofs.hall.serve_hall.Goals as goal

pub returns-clause-ends : goal.returns-clause-ends
returns-clause-ends g c =
    let device : DiskTells g.row.D.Denot = record { tells = g.D.Disk.tells; is_image = g.D.Disk.is_image; moment = g.D.Disk.moment; was_image = g.D.Disk.was_image; faults = g.D.Disk.faults } in
    let tells = g.R.Link.Link.tells in
    let same : c.replace-all.result.items ≡ c.args.doors.now.items = search rules in
    hall_served device tells g.R.Door.known c.args.links c.args.book c.close-closed.result.disk g.N.City.plan g.N.City.first g.N.City.doubt g.N.City.begun g.N.City.risen c.open-hall.result.kept c.enter_all.new.self.kept
    c.close-closed.result.length _ _ _ c.serve_doors-end.new.passes.items c.serve_doors-end.result
    c.requires.plan.0 c.requires.first c.requires.doubt c.requires.begun c.requires.risen c.enter_all.ensures.kept (ap (map g.R.Door.tells) same)
    c.open-hall.ensures.seen c.open-hall.ensures.places c.serve_doors-end.ensures.ran c.close-closed.ensures.ends

pub returns-clause-untouched : goal.returns-clause-untouched
returns-clause-untouched g c = λ e. absurd (was_opened c.serve_doors-end.ensures.ran.after c.serve_doors-end.result refused.NoMemory c.serve_doors-end.ensures.ran.ended e)
