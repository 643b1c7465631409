use Rattle.std.proofs.Common.{[]}
use Rattle.cf_http.specs.Links.{NoFaults, ReadsEach}
use Rattle.cf_http.specs.Serving.{ReadInTurn, Went, moment_now}
use Rattle.cf_http.proofs.server.Server.serve.Given as goal

abbrev pub invariant-loop-turn : goal.invariant-loop-turn
invariant-loop-turn g l =
    let old = l.initial.self.link in
    let start = moment_now l.initial.answer old in
    record {
      went : Went g.A.Answer.answers start [] (moment_now l.answer l.self.link) l.self.text l.turn;
      turns : ReadsEach (ReadInTurn g.A.Answer.answers start) old.input.reads l.self.link.input.reads;
      quiet : NoFaults old l.self.link;
    }
