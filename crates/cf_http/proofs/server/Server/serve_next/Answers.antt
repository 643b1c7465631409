use Rattle.std.proofs.Common.{refl, ◌∙◌, subst, Some, None}
use Rattle.cf_http.specs.Links.{FaultsIf}
use Rattle.cf_http.specs.Talk.{IsOpenText, no_head}
use Rattle.cf_http.proofs.CameLaws.{came_more}
use Rattle.cf_http.proofs.FaultLaws.{faults_since}
use Rattle.cf_http.proofs.ReadLaws.{over_sends, head_reads, body_reads}
use Rattle.cf_http.proofs.ServeLaws.{none_over, body_over, need_within, begins_still, stops_over, stops_if, went_one}
use Rattle.cf_http.proofs.TurnLaws.{refused_at}
use Rattle.cf_http.proofs.server.Server.serve_next.Goals as goal

pub refuse-requires : goal.refuse-requires
refuse-requires g c = no_head c.in-NoHead.ensures.next

pub refuse-requires-in-Err : goal.refuse-requires-in-Err
refuse-requires-in-Err g c = refused_at g.A.Answer.answers c.args.answer.now c.next_head.new.self.text c.in-Head.heading c.in-Err.why c.in-Head.ensures.next c.in-Err.is

pub next_body-requires : goal.next_body-requires
next_body-requires g c = need_within c.next_head.new.self.text c.in-Head.heading c.in-Ok.stated c.in-Head.ensures.next c.in-Ok.is

-- ---- how the link ends

pub returns-in-NoHead-clause-over : goal.returns-in-NoHead-clause-over
returns-in-NoHead-clause-over g c =
    stops_over g.A.Answer.answers c.args.answer.now c.args.answer.now c.args.self.now c.next_head.new.self c.refuse.new.self c.refuse.result
    c.in-NoHead.ensures.came c.in-NoHead.ensures.stays c.refuse.ensures.stays.0 c.refuse.ensures.over

pub returns-in-Err-clause-over : goal.returns-in-Err-clause-over
returns-in-Err-clause-over g c =
    stops_over g.A.Answer.answers c.args.answer.now c.args.answer.now c.args.self.now c.next_head.new.self c.refuse-in-Err.new.self c.refuse-in-Err.result
    c.in-Head.ensures.came c.in-Head.ensures.stays c.refuse-in-Err.ensures.stays.0 c.refuse-in-Err.ensures.over

pub returns-in-Stop-clause-over : goal.returns-in-Stop-clause-over
returns-in-Stop-clause-over g c =
    let new = c.next_head.new.self in
    stops_over g.A.Answer.answers c.args.answer.now c.args.answer.now c.args.self.now new new c.in-Stop.how
    c.in-Stop.ensures.came c.in-Stop.ensures.stays refl (none_over g.A.Answer.answers c.args.answer.now new c.in-Stop.how c.in-Stop.ensures.next)

pub returns-in-Some-clause-over : goal.returns-in-Some-clause-over
returns-in-Some-clause-over g c =
    let mid = c.next_head.new.self in
    let new = c.next_body.new.self in
    stops_over g.A.Answer.answers c.args.answer.now c.args.answer.now c.args.self.now new new c.in-Some.how
    (came_more c.args.self.now mid new c.in-Head.ensures.came c.in-Some.ensures.came) (c.in-Some.ensures.stays ∙ c.in-Head.ensures.stays) refl
    (body_over g.A.Answer.answers c.args.answer.now new c.in-Head.heading c.in-Ok.stated c.in-Some.how
    (begins_still mid new c.in-Head.heading c.in-Head.ensures.next c.in-Some.ensures.came) c.in-Ok.is c.in-Some.ensures.none)

pub returns-clause-open : goal.returns-clause-open
returns-clause-open g c none =
    let mid = c.next_head.new.self in
    let new = c.next_body.new.self in
    went_one g.A.Answer.answers c.args.answer.now c.reply.new.answer c.args.self.now new c.reply.new.self
    (came_more c.args.self.now mid new c.in-Head.ensures.came c.next_body.ensures.came) (c.next_body.ensures.stays ∙ c.in-Head.ensures.stays) c.reply.ensures.stays (c.reply.ensures.open none)

pub returns-clause-over : goal.returns-clause-over
returns-clause-over g c =
    let mid = c.next_head.new.self in
    let new = c.next_body.new.self in
    stops_if g.A.Answer.answers c.args.answer.now c.reply.new.answer c.args.self.now new c.reply.new.self c.reply.result
    (came_more c.args.self.now mid new c.in-Head.ensures.came c.next_body.ensures.came) (c.next_body.ensures.stays ∙ c.in-Head.ensures.stays) c.reply.ensures.stays c.reply.ensures.over

-- ---- the reads

pub returns-in-NoHead-clause-reads : goal.returns-in-NoHead-clause-reads
returns-in-NoHead-clause-reads g c =
    over_sends IsOpenText c.args.self.now c.next_head.new.self c.refuse.new.self c.refuse.ensures.stays.0 (head_reads c.args.self.now c.next_head.new.self c.next_head.ensures.reads)

pub returns-in-Stop-clause-reads : goal.returns-in-Stop-clause-reads
returns-in-Stop-clause-reads g c = head_reads c.args.self.now c.next_head.new.self c.next_head.ensures.reads

pub returns-in-Err-clause-reads : goal.returns-in-Err-clause-reads
returns-in-Err-clause-reads g c =
    over_sends IsOpenText c.args.self.now c.next_head.new.self c.refuse-in-Err.new.self c.refuse-in-Err.ensures.stays.0 (head_reads c.args.self.now c.next_head.new.self c.next_head.ensures.reads)

pub returns-in-Some-clause-reads : goal.returns-in-Some-clause-reads
returns-in-Some-clause-reads g c =
    body_reads c.args.self.now c.next_head.new.self c.next_body.new.self c.in-Head.heading c.in-Ok.stated
    c.in-Head.ensures.came c.in-Head.ensures.stays c.in-Head.ensures.next c.in-Ok.is c.in-Head.ensures.reads c.next_body.ensures.reads

pub returns-clause-reads : goal.returns-clause-reads
returns-clause-reads g c =
    over_sends IsOpenText c.args.self.now c.next_body.new.self c.reply.new.self c.reply.ensures.stays
    (body_reads c.args.self.now c.next_head.new.self c.next_body.new.self c.in-Head.heading c.in-Ok.stated
    c.in-Head.ensures.came c.in-Head.ensures.stays c.in-Head.ensures.next c.in-Ok.is c.in-Head.ensures.reads c.next_body.ensures.reads)

-- ---- the faults

pub returns-in-NoHead-clause-faults : goal.returns-in-NoHead-clause-faults
returns-in-NoHead-clause-faults g c = faults_since c.args.self.now.link c.next_head.new.self.link c.refuse.new.self.link (Some c.refuse.result) c.in-NoHead.ensures.faults c.refuse.ensures.faults

pub returns-in-Err-clause-faults : goal.returns-in-Err-clause-faults
returns-in-Err-clause-faults g c =
    faults_since c.args.self.now.link c.next_head.new.self.link c.refuse-in-Err.new.self.link (Some c.refuse-in-Err.result) c.in-Head.ensures.faults c.refuse-in-Err.ensures.faults

pub returns-in-Some-clause-faults : goal.returns-in-Some-clause-faults
returns-in-Some-clause-faults g c = faults_since c.args.self.now.link c.next_head.new.self.link c.next_body.new.self.link (Some c.in-Some.how) c.in-Head.ensures.faults c.in-Some.ensures.faults

pub returns-clause-faults : goal.returns-clause-faults
returns-clause-faults g c =
    let mid = c.next_head.new.self.link in
    let new = c.next_body.new.self.link in
    faults_since c.args.self.now.link new c.reply.new.self.link c.reply.result
    (faults_since c.args.self.now.link mid new None c.in-Head.ensures.faults (subst (FaultsIf mid new) c.in_default.is c.next_body.ensures.faults)) c.reply.ensures.faults
