use Rattle.std.proofs.Common.{◌+◌, [], ◌∷◌, ℕ, length, replicate, refl, ◌∙◌, ap, arith, inl, length-append}
use Rattle.cf_journal.specs.Layout.{RecoversToEither}
use Rattle.cf_journal.proofs.Moments.{weaken, both}
use Rattle.cf_journal.proofs.RecordLaws.{gate_after-push}
use Rattle.cf_journal.proofs.Layouts.{valid_push}
use Rattle.cf_journal.proofs.Appending.{on_err, at_end, torn_at_rest, written_at_rest, torn_staged, opened, reserved_of}
use Rattle.cf_journal.proofs.journal.Journal.append.Goals as goal

-- a crash in the write of the record leaves the history
pub returns-in_err-write_synced-clause-err : goal.returns-in_err-write_synced-clause-err
returns-in_err-write_synced-clause-err g c =
    let d = g.D.Disk in
    on_err c.from_residual.result _ (λ chart history entry settled reserves. record {
      clear = λ clear. record {
        clear = clear;
        stands = settled.stands;
        valid = settled.valid;
        images = λ told image is.
            let torn = at_end d.moment d.is_image d.was_image g.met.D.Disk.counts_now c.args.disk.now c.write_synced.new.disk _ c.write_synced.ensures.any_moment image is in
            torn_at_rest c.args.self.now.version chart history settled.valid _ _ (ap (λ (k : ℕ). k + 1) settled.stands.gate) torn.0 image (settled.images told torn.0 torn.1) torn.2;
      };
      doubt = λ doubt. absurd (cc (doubt, settled.clear));
    })

pub returns-in_err-write_synced-clause-any_moment : goal.returns-in_err-write_synced-clause-any_moment
returns-in_err-write_synced-clause-any_moment g c =
    let d = g.D.Disk in
    λ told chart history entry settled reserves.
    weaken d.moment d.was_image c.args.disk.now c.write_synced.new.disk _ (RecoversToEither chart history entry) c.write_synced.ensures.any_moment
    (λ image torn. inl (torn_at_rest c.args.self.now.version chart history settled.valid _ _ (ap (λ (k : ℕ). k + 1) settled.stands.gate) torn.0 image (settled.images told torn.0 torn.1) torn.2).recovers)

-- a crash in the write of the gate leaves the history, or it and the entry
pub returns-in_err-write_synced-2-clause-err : goal.returns-in_err-write_synced-2-clause-err
returns-in_err-write_synced-2-clause-err g c =
    let d = g.D.Disk in
    on_err c.from_residual-in_err-write_synced-2.result _ (λ chart history entry settled reserves.
    let of_version = reserved_of c.args.self.now c.args.self.now.version c.requires.reserved.0 entry c.requires.reserved.1 c.requires.reserved.2 reserves in
    record {
      clear = λ clear. absurd (cc clear);
      doubt = λ doubt. record {
        doubt = refl;
        stands = record { gate = settled.stands.gate; count = settled.stands.count };
        valid = settled.valid;
        has = reserves.has;
        of = of_version;
        images = λ told image is.
            let torn = at_end d.moment d.is_image d.was_image g.met.D.Disk.counts_now c.write_synced.new.disk c.write_synced-2.new.disk _ c.write_synced-2.ensures.any_moment image is in
            let at_is = ap (λ (k : ℕ). k + 1) settled.stands.gate in
            let before = d.content c.args.disk.now in
            let rest = settled.images told before (g.met.D.Disk.reads_an_image c.args.disk.now told) in
            let only = c.in_ok-write_synced.ensures.durable told torn.0 torn.1 in
            let is_staged = written_at_rest c.args.self.now.version chart history settled.valid entry reserves.has of_version _ _ (replicate reserves.room 0) before torn.0 at_is (c.deref.ensures.value ∙ reserves.bytes) rest (only ∙ c.in_ok-write_synced.ensures.content told) in
            torn_staged c.args.self.now.version chart history settled.valid entry reserves.has of_version _ settled.stands.gate torn.0 image is_staged torn.2;
      };
    })

pub returns-in_err-write_synced-2-clause-any_moment : goal.returns-in_err-write_synced-2-clause-any_moment
returns-in_err-write_synced-2-clause-any_moment g c =
    let d = g.D.Disk in
    λ told chart history entry settled reserves.
    let P = RecoversToEither chart history entry in
    let of_version = reserved_of c.args.self.now c.args.self.now.version c.requires.reserved.0 entry c.requires.reserved.1 c.requires.reserved.2 reserves in
    let at_is = ap (λ (k : ℕ). k + 1) settled.stands.gate in
    let before = d.content c.args.disk.now in
    let rest = settled.images told before (g.met.D.Disk.reads_an_image c.args.disk.now told) in
    both d.moment d.was_image c.args.disk.now c.write_synced.new.disk c.write_synced-2.new.disk P
    (weaken d.moment d.was_image c.args.disk.now c.write_synced.new.disk _ P c.write_synced.ensures.any_moment
    (λ image torn. inl (torn_at_rest c.args.self.now.version chart history settled.valid _ _ (ap (λ (k : ℕ). k + 1) settled.stands.gate) torn.0 image (settled.images told torn.0 torn.1) torn.2).recovers))
    (weaken d.moment d.was_image c.write_synced.new.disk c.write_synced-2.new.disk _ P c.write_synced-2.ensures.any_moment
    (λ image torn.
    let only = c.in_ok-write_synced.ensures.durable told torn.0 torn.1 in
    let is_staged = written_at_rest c.args.self.now.version chart history settled.valid entry reserves.has of_version _ _ (replicate reserves.room 0) before torn.0 at_is (c.deref.ensures.value ∙ reserves.bytes) rest (only ∙ c.in_ok-write_synced.ensures.content told) in
    (torn_staged c.args.self.now.version chart history settled.valid entry reserves.has of_version _ settled.stands.gate torn.0 image is_staged torn.2).recovers))

pub returns-clause-any_moment : goal.returns-clause-any_moment
returns-clause-any_moment g c =
    let d = g.D.Disk in
    λ told chart history entry settled reserves.
    let P = RecoversToEither chart history entry in
    let of_version = reserved_of c.args.self.now c.args.self.now.version c.requires.reserved.0 entry c.requires.reserved.1 c.requires.reserved.2 reserves in
    let at_is = ap (λ (k : ℕ). k + 1) settled.stands.gate in
    let before = d.content c.args.disk.now in
    let rest = settled.images told before (g.met.D.Disk.reads_an_image c.args.disk.now told) in
    both d.moment d.was_image c.args.disk.now c.write_synced.new.disk c.write_synced-2.new.disk P
    (weaken d.moment d.was_image c.args.disk.now c.write_synced.new.disk _ P c.write_synced.ensures.any_moment
    (λ image torn. inl (torn_at_rest c.args.self.now.version chart history settled.valid _ _ (ap (λ (k : ℕ). k + 1) settled.stands.gate) torn.0 image (settled.images told torn.0 torn.1) torn.2).recovers))
    (weaken d.moment d.was_image c.write_synced.new.disk c.write_synced-2.new.disk _ P c.write_synced-2.ensures.any_moment
    (λ image torn.
    let only = c.in_ok-write_synced.ensures.durable told torn.0 torn.1 in
    let is_staged = written_at_rest c.args.self.now.version chart history settled.valid entry reserves.has of_version _ _ (replicate reserves.room 0) before torn.0 at_is (c.deref.ensures.value ∙ reserves.bytes) rest (only ∙ c.in_ok-write_synced.ensures.content told) in
    (torn_staged c.args.self.now.version chart history settled.valid entry reserves.has of_version _ settled.stands.gate torn.0 image is_staged torn.2).recovers))

-- behind the open gate the entry counts
pub returns-clause-ok : goal.returns-clause-ok
returns-clause-ok g c =
    let d = g.D.Disk in
    λ chart history entry settled reserves.
    let of_version = reserved_of c.args.self.now c.args.self.now.version c.requires.reserved.0 entry c.requires.reserved.1 c.requires.reserved.2 reserves in
    let at_is = ap (λ (k : ℕ). k + 1) settled.stands.gate in
    let before = d.content c.args.disk.now in
    let middle = d.content c.write_synced.new.disk in
    record {
      clear = refl;
      stands = record {
        gate = omega (arith, settled.stands.gate, reserves.size, gate_after-push (6 + length chart) history entry);
        count = omega (arith, settled.stands.count, length-append history (entry ∷ []));
      };
      valid = valid_push c.args.self.now.version chart history entry settled.valid reserves.has of_version;
      images = λ told image is.
          let rest = settled.images told before (g.met.D.Disk.reads_an_image c.args.disk.now told) in
          let is_staged = written_at_rest c.args.self.now.version chart history settled.valid entry reserves.has of_version _ _ (replicate reserves.room 0) before middle at_is (c.deref.ensures.value ∙ reserves.bytes) rest (c.in_ok-write_synced.ensures.content told) in
          let only = c.in_ok-write_synced-2.ensures.durable told image is in
          opened c.args.self.now.version chart history settled.valid entry reserves.has of_version _ middle image settled.stands.gate is_staged (only ∙ c.in_ok-write_synced-2.ensures.content told);
    }
