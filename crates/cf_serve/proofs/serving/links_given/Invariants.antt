use Rattle.std.proofs.Common.{◌≡◌, ◌*◌, ◌≤◌, take, sum_by}
use Rattle.cf_serve_laws.specs.Desks.{end_links}
use Rattle.cf_serve.proofs.serving.links_given.Given as goal

abbrev pub invariant-loop-desk : goal.invariant-loop-desk
invariant-loop-desk g l = record {
  links : l.links ≡ sum_by (λ d. end_links d.end) (take l.desk-index l.desks);
  most : l.links ≤ l.desk-index * 4294967295;
}
