use Rattle.std.proofs.Common.{◌≡◌, take, ◌∙◌}
use Rattle.cf_top.proofs.KeptDoors.{front_is, moved_is}
use Rattle.cf_top.proofs.serve_command.keep_first.Goals as goal

pub returns-clause-keeps : goal.returns-clause-keeps
returns-clause-keeps g c =
    let first : c.move_all.new.to.items ≡ take c.args.count c.args.doors.now.items =
    moved_is c.args.prepared.first.items c.take_others.new.doors.items c.move_all.new.to.items c.move_all.ensures.to c.requires.empty.0 ∙ c.take_others.ensures.first in
    let back = front_is c.args.count c.args.doors.now.items c.move_all.new.to.items c.keep_doors-served.new.doors.items c.move_all-2.new.to.items c.reverse.new.self.items c.move_all-3.new.to.items
    c.requires.enough first c.keep_doors-served.ensures.len
    (moved_is c.move_all.new.from.items c.keep_doors-served.new.doors.items c.move_all-2.new.to.items c.move_all-2.ensures.to c.move_all.ensures.from) c.move_all-3.ensures.to in
    rw (← first, back) c.keep_doors-served.ensures.keeps
