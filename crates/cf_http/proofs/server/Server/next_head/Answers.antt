use Rattle.std.proofs.Common.{◌∙◌}
use Rattle.cf_http_heads.specs.Heads.{IsOpenHead}
use Rattle.cf_http.proofs.CameLaws.{came_more}
use Rattle.cf_http.proofs.ReadLaws.{read_over}
use Rattle.cf_http.proofs.server.Server.next_head.Goals as goal

pub loop-heading-preserved : goal.loop-heading-preserved
loop-heading-preserved g c =
    let at = c.loop-heading in
    record {
      came = came_more c.args.self.now at.self c.fill.new.self at.invariant.came c.fill.ensures.came;
      reads = read_over IsOpenHead c.args.self.now at.self c.fill.new.self at.invariant.came at.invariant.stays c.in-Open.ensures at.invariant.reads c.fill.ensures.reads;
      quiet = c.in-Ok-true.ensures.faults ∙ at.invariant.quiet;
      stays = c.fill.ensures.stays ∙ at.invariant.stays;
    }

pub returns-in-Ok-false-clause-reads : goal.returns-in-Ok-false-clause-reads
returns-in-Ok-false-clause-reads g c =
    let at = c.loop-heading in
    read_over IsOpenHead c.args.self.now at.self c.fill.new.self at.invariant.came at.invariant.stays c.in-Open.ensures at.invariant.reads c.fill.ensures.reads

pub returns-in-Err-clause-came : goal.returns-in-Err-clause-came
returns-in-Err-clause-came g c = came_more c.args.self.now c.loop-heading.self c.fill.new.self c.loop-heading.invariant.came c.fill.ensures.came

pub returns-in-Err-clause-reads : goal.returns-in-Err-clause-reads
returns-in-Err-clause-reads g c =
    let at = c.loop-heading in
    read_over IsOpenHead c.args.self.now at.self c.fill.new.self at.invariant.came at.invariant.stays c.in-Open.ensures at.invariant.reads c.fill.ensures.reads
