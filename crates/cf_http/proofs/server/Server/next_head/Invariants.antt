use Rattle.std.proofs.Common.{◌≡◌, ◌-◌, length}
use Rattle.cf_http_heads.specs.Heads.{IsOpenHead}
use Rattle.cf_http.specs.Links.{OnlyReads}
use Rattle.cf_http.specs.Stages.{Came, ReadsOver}
use Rattle.cf_http.proofs.server.Server.next_head.Given as goal

abbrev pub invariant-loop-heading : goal.invariant-loop-heading
invariant-loop-heading g l =
    let old = l.initial.self in
    record {
      came : Came old l.self;
      reads : ReadsOver IsOpenHead old l.self;
      quiet : l.self.link.input.faults ≡ old.link.input.faults;
      stays : OnlyReads old.link l.self.link;
    }

abbrev pub decreases-loop-heading : goal.decreases-loop-heading
decreases-loop-heading g l = 32768 - length l.self.text
