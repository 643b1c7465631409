use Rattle.std.proofs.Common.{ap, subst}
use Rattle.cf_http_heads.specs.Answers.{refusal_answer}
use Rattle.cf_http.specs.Links.{LinkTells}
use Rattle.cf_http.specs.Serving.{Gave}
use Rattle.cf_http.specs.Stages.{Stage}
use Rattle.cf_http.proofs.TurnLaws.{refused_over}
use Rattle.cf_http.proofs.server.Server.refuse.Goals as goal

pub returns-clause-over : goal.returns-clause-over
returns-clause-over g c =
    let no = c.send_refusal in
    let answer = refusal_answer c.args.is_head c.args.why in
    let link = ap (λ (s : Stage). s.link) c.self.view_is in
    refused_over g.A.Answer.answers c.args.answer.now c.args.self.now _ answer no.result c.requires no.ensures.how
    (subst (λ (x : LinkTells). Gave no.result x (g.L.Link.tells no.new.link) answer) link no.ensures.gave)
