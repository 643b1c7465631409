use Rattle.cf_model_articulation.proofs.Articulated.{articulates_always}
use Rattle.cf_model_closed.proofs.ClosedYears.{closed_years_always}
use Rattle.cf_office.proofs.Sound.{legal_sound}
use Rattle.cf_journal_book.specs.Snapshots.{doubt_of}
use Rattle.cf_journal_book.proofs.Recovering.{images_recover, doubt_sound}
use Rattle.cf_journal_book.proofs.archive.Archive.close.Goals as goal

pub returns-clause-sound : goal.returns-clause-sound
returns-clause-sound g c =
    let b = c.self.inside in
    let all = c.entries-legal.ensures in
    rw (← c.self.view_is) (legal_sound b.rest.plan b.rest.entries all.whole all.legal all.few)

pub returns-clause-doubt_sound : goal.returns-clause-doubt_sound
returns-clause-doubt_sound g c =
    let b = c.self.inside in
    rw (← c.self.view_is) (doubt_sound b.rest.plan b.rest.entries (doubt_of b.doubt) c.entries-legal.ensures.whole c.self.invariant.legal c.self.invariant.adds)

pub returns-clause-images : goal.returns-clause-images
returns-clause-images g c =
    let b = c.self.inside in
    rw (← c.self.view_is) (images_recover g.D.Disk.tells g.D.Disk.is_image b.rest.plan b.rest.entries b.journal b.disk b.chart.value.items (doubt_of b.doubt) c.self.invariant)

pub returns-clause-closed : goal.returns-clause-closed
returns-clause-closed g c =
    let b = c.self.inside in
    rw (← c.self.view_is) (closed_years_always b.rest.plan b.rest.entries c.entries-legal.ensures.whole c.self.invariant.legal)

pub returns-clause-articulates : goal.returns-clause-articulates
returns-clause-articulates g c =
    let b = c.self.inside in
    rw (← c.self.view_is) (articulates_always b.chart.value.items b.rest.plan b.rest.entries c.self.invariant.states c.self.invariant.legal)
