use Rattle.std.proofs.Common.{◌≡◌, ◌-◌, ◌<◌, length}
use Rattle.cf_http.specs.Links.{OnlyReads}
use Rattle.cf_http.specs.Stages.{Came, ReadsOver}
use Rattle.cf_http.proofs.server.Server.next_body.Given as goal

abbrev pub invariant-loop-self : goal.invariant-loop-self
invariant-loop-self g l =
    let old = l.initial.self in
    record {
      came : Came old l.self;
      reads : ReadsOver (λ t. length t < l.need) old l.self;
      quiet : l.self.link.input.faults ≡ old.link.input.faults;
      stays : OnlyReads old.link l.self.link;
    }

abbrev pub decreases-loop-self : goal.decreases-loop-self
decreases-loop-self g l = l.need - length l.self.text
