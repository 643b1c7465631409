use Rattle.std.proofs.Common.{◌∙◌}
use Rattle.cf_journal.specs.Layout.{RecoversTo}
use Rattle.cf_journal.proofs.Moments.{weaken, unmoved}
use Rattle.cf_journal.proofs.Appending.{at_end}
use Rattle.cf_journal.proofs.Layouts.{valid_two}
use Rattle.cf_journal.proofs.Raising.{is_first, torn_raise, raised}
use Rattle.cf_journal.proofs.journal.Journal.raise.Goals as goal

-- at version 2 nothing is done
pub returns-then-self-eq2-clause-any_moment : goal.returns-then-self-eq2-clause-any_moment
returns-then-self-eq2-clause-any_moment g c =
    let d = g.D.Disk in
    λ told chart history settled.
    unmoved d.moment d.was_image c.args.disk.now (RecoversTo chart history) (λ image was. (settled.images told image (g.met.D.Disk.only_now c.args.disk.now image was)).recovers)

-- a crash in the write leaves the history
pub returns-in_err-write_synced-clause-settled : goal.returns-in_err-write_synced-clause-settled
returns-in_err-write_synced-clause-settled g c =
    let d = g.D.Disk in
    let version = c.args.self.now.version in
    let first = is_first version c.args.self.now.known c.if-self-eq2.false in
    λ chart history settled. record {
      clear = settled.clear;
      stands = settled.stands;
      valid = settled.valid;
      images = λ told image is.
          let torn = at_end d.moment d.is_image d.was_image g.met.D.Disk.counts_now c.args.disk.now c.write_synced.new.disk _ c.write_synced.ensures.any_moment image is in
          torn_raise version chart history settled.valid first torn.0 image (settled.images told torn.0 torn.1) torn.2;
    }

pub returns-in_err-write_synced-clause-any_moment : goal.returns-in_err-write_synced-clause-any_moment
returns-in_err-write_synced-clause-any_moment g c =
    let d = g.D.Disk in
    let version = c.args.self.now.version in
    let first = is_first version c.args.self.now.known c.if-self-eq2.false in
    λ told chart history settled.
    weaken d.moment d.was_image c.args.disk.now c.write_synced.new.disk _ (RecoversTo chart history) c.write_synced.ensures.any_moment
    (λ image torn. (torn_raise version chart history settled.valid first torn.0 image (settled.images told torn.0 torn.1) torn.2).recovers)

pub returns-clause-settled : goal.returns-clause-settled
returns-clause-settled g c =
    let d = g.D.Disk in
    let version = c.args.self.now.version in
    λ chart history settled. record {
      clear = settled.clear;
      stands = record { gate = settled.stands.gate; count = settled.stands.count };
      valid = valid_two version chart history settled.valid;
      images = λ told image is.
          let before = d.content c.args.disk.now in
          let was = settled.images told before (g.met.D.Disk.reads_an_image c.args.disk.now told) in
          raised version chart history settled.valid before image was (c.in_ok-write_synced.ensures.durable told image is ∙ c.in_ok-write_synced.ensures.content told);
    }

pub returns-clause-any_moment : goal.returns-clause-any_moment
returns-clause-any_moment g c =
    let d = g.D.Disk in
    let version = c.args.self.now.version in
    let first = is_first version c.args.self.now.known c.if-self-eq2.false in
    λ told chart history settled.
    weaken d.moment d.was_image c.args.disk.now c.write_synced.new.disk _ (RecoversTo chart history) c.write_synced.ensures.any_moment
    (λ image torn. (torn_raise version chart history settled.valid first torn.0 image (settled.images told torn.0 torn.1) torn.2).recovers)
