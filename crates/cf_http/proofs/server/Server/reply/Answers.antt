use Rattle.std.proofs.Common.{◌∙◌, ◌+◌, ap, drop, sym, subst, take}
use Rattle.cf_http_heads.specs.Answers.{miss_answer}
use Rattle.cf_http.specs.Links.{LinkTells}
use Rattle.cf_http.specs.Turns.{Said, Told}
use Rattle.cf_http.proofs.TurnLaws.{missed_open, missed_over, missed_kind, told_open, told_over, told_kind, route_at}
use Rattle.cf_http.proofs.server.Server.reply.Goals as goal

pub returns-in-Err-clause-open : goal.returns-in-Err-clause-open
returns-in-Err-clause-open g c none =
    let heading = c.args.heading.now in
    let said = subst (λ (x : LinkTells). Said c.args.self.now.link x (miss_answer heading.is_head heading.closes c.in-Err.miss) heading.closes c.reply_missed-how.result) (sym c.pass_after.ensures.link) c.reply_missed-how.ensures.said in
    missed_open g.A.Answer.answers c.args.answer.now c.args.self.now c.pass_after.new.self heading c.requires.begins c.args.stated c.in-Err.miss c.reply_missed-how.result
    c.in-Err.is c.requires.states c.requires.whole (c.pass_after.ensures.text none ∙ ap (drop (heading.length + c.args.stated)) c.reply_missed-how.ensures.stays.1) said none

pub returns-in-Err-clause-over : goal.returns-in-Err-clause-over
returns-in-Err-clause-over g c =
    let heading = c.args.heading.now in
    let said = subst (λ (x : LinkTells). Said c.args.self.now.link x (miss_answer heading.is_head heading.closes c.in-Err.miss) heading.closes c.reply_missed-how.result) (sym c.pass_after.ensures.link) c.reply_missed-how.ensures.said in
    missed_over g.A.Answer.answers c.args.answer.now c.args.self.now c.pass_after.new.self heading c.requires.begins c.args.stated c.in-Err.miss c.reply_missed-how.result
    c.in-Err.is c.requires.states c.requires.whole said

pub returns-in-Err-clause-kind : goal.returns-in-Err-clause-kind
returns-in-Err-clause-kind g c = missed_kind _ _ _ _ c.reply_missed-how.result c.reply_missed-how.ensures.said

pub reply_told-how-requires-clause-route : goal.reply_told-how-requires-clause-route
reply_told-how-requires-clause-route g c = route_at c.args.self.now.text c.args.heading.now c.requires.begins c.in-Ok.route c.in-Ok.is

pub returns-in-Ok-clause-open : goal.returns-in-Ok-clause-open
returns-in-Ok-clause-open g c none =
    let heading = c.args.heading.now in
    let body = take c.args.stated (drop heading.length c.args.self.now.text) in
    let how = c.reply_told-how in
    let told = subst (λ (x : LinkTells). Told g.A.Answer.answers c.args.answer.now c.args.self.now.link x c.in-Ok.route body heading.closes how.new.answer how.result) (sym c.pass_after-in-Ok.ensures.link) how.ensures.said in
    told_open g.A.Answer.answers c.args.answer.now how.new.answer c.args.self.now c.pass_after-in-Ok.new.self heading c.requires.begins c.args.stated c.in-Ok.route how.result
    c.in-Ok.is c.requires.states c.requires.whole (c.pass_after-in-Ok.ensures.text none ∙ ap (drop (heading.length + c.args.stated)) how.ensures.stays.1) told none

pub returns-in-Ok-clause-over : goal.returns-in-Ok-clause-over
returns-in-Ok-clause-over g c =
    let heading = c.args.heading.now in
    let body = take c.args.stated (drop heading.length c.args.self.now.text) in
    let how = c.reply_told-how in
    let told = subst (λ (x : LinkTells). Told g.A.Answer.answers c.args.answer.now c.args.self.now.link x c.in-Ok.route body heading.closes how.new.answer how.result) (sym c.pass_after-in-Ok.ensures.link) how.ensures.said in
    told_over g.A.Answer.answers c.args.answer.now how.new.answer c.args.self.now c.pass_after-in-Ok.new.self heading c.requires.begins c.args.stated c.in-Ok.route how.result
    c.in-Ok.is c.requires.states c.requires.whole told

pub returns-in-Ok-clause-kind : goal.returns-in-Ok-clause-kind
returns-in-Ok-clause-kind g c = told_kind g.A.Answer.answers c.args.answer.now c.reply_told-how.new.answer _ _ c.in-Ok.route _ _ c.reply_told-how.result c.reply_told-how.ensures.said
