use Rattle.std.proofs.Common.{◌∙◌, arith, List, ℕ, Option, Some, map, ap, refl}
use Rattle.cf_base.proofs.Common.{common_steps}
use Rattle.cf_http.specs.Links.{LinkRead}
use Rattle.cf_http_links.specs.Memory.{read_by, received_of}
use Rattle.cf_http_links.proofs.ReadLaws.{reads_kept}
use Rattle.cf_http_links.proofs.memory.MemLinkLink.write.Goals as goal

pub returns-in-Ok-clause-writes : goal.returns-in-Ok-clause-writes
returns-in-Ok-clause-writes c =
    let l = c.args.self.now in
    record {
      bytes = grind (arith, common_steps);
      faults = refl;
      stays = ap (λ (reads : Option (List LinkRead)). record { received = Some (received_of l); ended = l.ended; reads = reads; faults = l.read_faults })
          (ap (λ (sent : List ℕ). Some (map (read_by l.bytes.items sent) l.reads.items)) c.in-Ok.ensures.items
          ∙ ap (λ (reads : List LinkRead). Some reads) (reads_kept l.bytes.items l.sent.items c.front-part.result.now l.reads.items l.passed));
    }
