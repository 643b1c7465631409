use Rattle.std.proofs.Common.{length}
use Rattle.cf_hall.specs.OpeningNames.{name_at}
use Rattle.cases_runs.proofs.halls.hall.play_table.Given as goal

abbrev pub ghosts-play_over : goal.ghosts-play_over
ghosts-play_over g a = record {
  table = a.opening.turns;
  plan = a.chart;
  stripes = name_at a.opening.stripes;
  accepted = a.opening.accepted.name;
  faulted = a.opening.faulted.name;
  first = length a.book.entries;
  doubt = a.book.doubt;
  begun = g.D.Disk.moment a.book.disk;
  risen = g.D.Disk.faults a.book.disk;
}
