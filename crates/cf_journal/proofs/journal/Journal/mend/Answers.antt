use Rattle.std.proofs.Common.{refl, ◌∙◌}
use Rattle.cf_journal.specs.Layout.{RecoversToEither}
use Rattle.cf_journal.proofs.Moments.{weaken}
use Rattle.cf_journal.proofs.Appending.{on_err, at_end, torn_staged, closed}
use Rattle.cf_journal.proofs.journal.Journal.mend.Goals as goal

pub returns-in_err-write_synced-clause-err : goal.returns-in_err-write_synced-clause-err
returns-in_err-write_synced-clause-err g c =
    let d = g.D.Disk in
    on_err c.from_residual.result _ (λ chart history entry doubt. record {
      doubt = doubt.doubt;
      stands = doubt.stands;
      valid = doubt.valid;
      has = doubt.has;
      of = doubt.of;
      images = λ told image is.
          let torn = at_end d.moment d.is_image d.was_image g.met.D.Disk.counts_now c.args.disk.now c.write_synced.new.disk _ c.write_synced.ensures.any_moment image is in
          torn_staged c.args.self.now.version chart history doubt.valid entry doubt.has doubt.of _ doubt.stands.gate torn.0 image (doubt.images told torn.0 torn.1) torn.2;
    })

pub returns-in_err-write_synced-clause-any_moment : goal.returns-in_err-write_synced-clause-any_moment
returns-in_err-write_synced-clause-any_moment g c =
    let d = g.D.Disk in
    λ told chart history entry doubt.
    weaken d.moment d.was_image c.args.disk.now c.write_synced.new.disk _ (RecoversToEither chart history entry) c.write_synced.ensures.any_moment
    (λ image torn. (torn_staged c.args.self.now.version chart history doubt.valid entry doubt.has doubt.of _ doubt.stands.gate torn.0 image (doubt.images told torn.0 torn.1) torn.2).recovers)

pub returns-clause-ok : goal.returns-clause-ok
returns-clause-ok g c =
    let d = g.D.Disk in
    λ chart history entry doubt. record {
      clear = refl;
      stands = record { gate = doubt.stands.gate; count = doubt.stands.count };
      valid = doubt.valid;
      images = λ told image is.
          let before = d.content c.args.disk.now in
          let was = doubt.images told before (g.met.D.Disk.reads_an_image c.args.disk.now told) in
          let now_is = c.in_ok-write_synced.ensures.content told in
          closed c.args.self.now.version chart history doubt.valid entry doubt.has doubt.of _ before image doubt.stands.gate was (c.in_ok-write_synced.ensures.durable told image is ∙ now_is);
    }

pub returns-clause-any_moment : goal.returns-clause-any_moment
returns-clause-any_moment g c =
    let d = g.D.Disk in
    λ told chart history entry doubt.
    weaken d.moment d.was_image c.args.disk.now c.write_synced.new.disk _ (RecoversToEither chart history entry) c.write_synced.ensures.any_moment
    (λ image torn. (torn_staged c.args.self.now.version chart history doubt.valid entry doubt.has doubt.of _ doubt.stands.gate torn.0 image (doubt.images told torn.0 torn.1) torn.2).recovers)
