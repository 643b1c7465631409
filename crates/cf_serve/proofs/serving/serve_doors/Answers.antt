use Rattle.std.proofs.Common.{List, sym, ap, ◌∙◌}
use Rattle.cf_serve.specs.DesksRun.{end_of}
use Rattle.cf_serve_laws.specs.Desks.{DeskState}
use Rattle.cf_serve.proofs.serving.serve_doors.Goals as goal

pub returns-clause-ran : goal.returns-clause-ran
returns-clause-ran g c =
    let before : List (DeskState g.row.R-Link.Denot) = c.seat_all.new.desks.items in
    let after : List (DeskState g.row.R-Link.Denot) = c.keep_all.new.desks.items in
    record {
      before = before;
      after = after;
      many = c.keep_all.ensures.many;
      fresh = c.seat_all.ensures.fresh;
      kept = c.keep_all.ensures.kept;
      olds_are = sym c.seat_all.ensures.doors;
      news_are = c.part_all.ensures.doors;
      passes_are = c.part_all.ensures.passes;
      ended = c.end_of-end.ensures ∙ ap end_of c.as_slice.ensures.value;
    }
