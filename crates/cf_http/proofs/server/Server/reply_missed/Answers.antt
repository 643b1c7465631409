use Rattle.std.proofs.Common.{ap, subst}
use Rattle.cf_http_heads.specs.Answers.{miss_answer}
use Rattle.cf_http.specs.Links.{LinkTells}
use Rattle.cf_http.specs.Stages.{Stage}
use Rattle.cf_http.specs.Turns.{Said}
use Rattle.cf_http.proofs.TurnLaws.{said_by}
use Rattle.cf_http.proofs.server.Server.reply_missed.Goals as goal

pub returns-clause-said : goal.returns-clause-said
returns-clause-said g c =
    let new = g.L.Link.tells c.send_answer-sent.new.link in
    let heading = c.args.heading.now in
    let answer = miss_answer heading.is_head heading.closes c.args.miss in
    let sent = rw (c.code.ensures.value, c.allow.ensures, c.body.ensures) at c.send_answer-sent.ensures in
    subst (λ (x : LinkTells). Said x new answer heading.closes c.finish.result) (ap (λ (s : Stage). s.link) c.self.view_is)
    (said_by (g.L.Link.tells c.self.inside.link) new answer c.send_answer-sent.result heading.closes c.finish.result c.finish.ensures sent.sends)
