use Rattle.std.proofs.Common.{◌≡◌, ◌∙◌, ◌++◌, subst, ap, List, ℕ, None, Some, false}
use Rattle.cf_http_heads.specs.Answers.{answer_bytes, memory_answer}
use Rattle.cf_http.specs.Links.{LinkTells}
use Rattle.cf_http.specs.Serving.{Gave}
use Rattle.cf_http.specs.Stages.{Stage}
use Rattle.cf_http.specs.Turns.{told, no_room, no_memory, Said}
use Rattle.cf_http.proofs.TurnLaws.{said_by}
use Rattle.cf_http.proofs.server.Server.reply_told.Goals as goal

pub returns-in_default-clause-said : goal.returns-in_default-clause-said
returns-in_default-clause-said g c =
    let no = c.send_no_memory in
    no_room no.result (no.ensures.how, subst (λ (x : LinkTells). Gave no.result x (g.L.Link.tells no.new.link) memory_answer) (ap (λ (s : Stage). s.link) c.self.view_is) no.ensures.gave)

pub returns-in_default-answer-clause-said : goal.returns-in_default-answer-clause-said
returns-in_default-answer-clause-said g c =
    let no = c.send_no_memory-in_default-answer in
    no_memory c.answer.new.self no.result
    (subst (λ (b : List ℕ). g.A.Answer.answers c.args.answer.now (record { route = c.args.route; body = b }) None c.answer.new.self) c.in-Ok.ensures c.in_default-answer.ensures.memory)
    (no.ensures.how, subst (λ (x : LinkTells). Gave no.result x (g.L.Link.tells no.new.link) memory_answer) (ap (λ (s : Stage). s.link) c.self.view_is) no.ensures.gave)

pub returns-clause-said : goal.returns-clause-said
returns-clause-said g c =
    let answered = c.in-Ok-answer.ensures.ok in
    let text : c.as_slice.result.now ≡ answered.body = c.as_slice.ensures.value ∙ answered.put ∙ ap (λ t. t ++ answered.body) c.clear.ensures.items in
    let closes = c.args.heading.now.closes in
    let old = g.L.Link.tells c.self.inside.link in
    let new = g.L.Link.tells c.send_answer-sent.new.link in
    told c.in-Ok-answer.code answered.body c.answer.new.self c.finish.result answered.code_is
    (subst (λ (b : List ℕ). g.A.Answer.answers c.args.answer.now (record { route = c.args.route; body = b }) (Some (c.in-Ok-answer.code, answered.body)) c.answer.new.self) c.in-Ok.ensures answered.says)
    (subst (λ (x : LinkTells). Said x new (answer_bytes c.in-Ok-answer.code None closes false answered.body) closes c.finish.result) (ap (λ (s : Stage). s.link) c.self.view_is)
    (subst (λ (t : List ℕ). Said old new (answer_bytes c.in-Ok-answer.code None closes false t) closes c.finish.result) text
    (said_by old new _ c.send_answer-sent.result closes c.finish.result c.finish.ensures c.send_answer-sent.ensures.sends)))
