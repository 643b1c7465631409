use Rattle.std.proofs.Common.{◌+◌, [], List, ℕ, arith, refl, sym, subst, ap, Some, None}
use Rattle.cf_http.specs.Links.{FaultsIf}
use Rattle.cf_http.specs.Serving.{ReadInTurn, Went, moment_now}
use Rattle.cf_http.proofs.FaultLaws.{faults_since}
use Rattle.cf_http.proofs.ReadLaws.{reads_none, turn_reads}
use Rattle.cf_http.proofs.ServeLaws.{went_none, went_on, served_over, served_limit}
use Rattle.cf_http.proofs.server.Server.serve.Goals as goal

pub loop-turn-init : goal.loop-turn-init
loop-turn-init g c =
    let old = c.args.self.now.link in
    let start = moment_now c.args.answer.now old in
    record {
      went = subst (λ (t : List ℕ). Went g.A.Answer.answers start [] start t 0) (sym c.requires) (went_none g.A.Answer.answers start []);
      turns = reads_none (ReadInTurn g.A.Answer.answers start) old.input.reads;
      quiet = (refl, refl);
    }

pub loop-turn-preserved : goal.loop-turn-preserved
loop-turn-preserved g c =
    let old = c.args.self.now.link in
    let at = c.loop-turn in
    let new = c.serve_next.new.self in
    let start = moment_now c.args.answer.now old in
    record {
      went = went_on g.A.Answer.answers start (moment_now at.answer at.self.link) (moment_now c.serve_next.new.answer new.link) [] at.self.text new.text at.turn 1 (at.turn + 1) refl
          at.invariant.went (c.serve_next.ensures.open c.in_default.is);
      turns = turn_reads g.A.Answer.answers start at.answer at.self new at.turn old.input.reads at.invariant.went at.invariant.turns c.serve_next.ensures.reads;
      quiet = faults_since old at.self.link new.link None at.invariant.quiet (subst (FaultsIf at.self.link new.link) c.in_default.is c.serve_next.ensures.faults);
    }

pub returns-in-Some : goal.returns-in-Some
returns-in-Some g c =
    let old = c.args.self.now in
    let at = c.loop-turn in
    let new = c.serve_next.new.self in
    record {
      served = served_over g.A.Answer.answers c.args.answer.now at.answer c.serve_next.new.answer old at.self new at.turn c.in-Some.how
          c.loop-turn-test.true (λ e. c.in-Some.ensures.limit (ap Some e)) at.invariant.went c.in-Some.ensures.over;
      turns = turn_reads g.A.Answer.answers (moment_now c.args.answer.now old.link) at.answer at.self new at.turn old.link.input.reads at.invariant.went at.invariant.turns c.in-Some.ensures.reads;
      faults = faults_since old.link at.self.link new.link (Some c.in-Some.how) at.invariant.quiet c.in-Some.ensures.faults;
    }

pub returns : goal.returns
returns g c =
    let at = c.loop-turn in
    record {
      served = served_limit g.A.Answer.answers c.args.answer.now at.answer c.args.self.now at.self at.turn (omega (arith, c.loop-turn-test.false, at.auto.turn-end)) at.invariant.went;
      turns = at.invariant.turns;
      faults = at.invariant.quiet;
    }
