use Rattle.std.proofs.Common.{◌≡◌, inl, inr, ℕ, List, ◌≤◌, length, take, ◌∙◌, ap, subst}
use Rattle.cf_disk.specs.Images.{HalfCut}
use Rattle.cf_journal.specs.Answers.{IsUnfoundedOr, IsCutFrom}
use Rattle.cf_journal.proofs.Moments.{weaken, both}
use Rattle.cf_journal.proofs.FoundingSteps.{only_unfounded, not_cut, cut_again, cut_unfounded, cut_short}
use Rattle.cf_journal.proofs.founding.found.Goals as goal

-- up to the end of the cut an image is an old one, cut or not yet
pub returns-in_err-cut_synced-clause-first_sync : goal.returns-in_err-cut_synced-clause-first_sync
returns-in_err-cut_synced-clause-first_sync g c =
    let d = g.D.Disk in
    λ told unfounded.
    let start = c.args.disk.now in
    let asked = c.refuse_founded.new.disk in
    let P = IsCutFrom (d.is_image start) in
    inl (both d.moment d.was_image start asked c.cut_synced.new.disk P
    (weaken d.moment d.was_image start asked _ P c.refuse_founded.ensures.any_moment (not_cut (d.is_image start)))
    (weaken d.moment d.was_image asked c.cut_synced.new.disk _ P c.cut_synced.ensures.any_moment (cut_again (d.is_image start) (d.is_image asked) c.refuse_founded.ensures.images)))

pub returns-in_err-lay-clause-any_moment : goal.returns-in_err-lay-clause-any_moment
returns-in_err-lay-clause-any_moment g c =
    let d = g.D.Disk in
    λ told unfounded only.
    let start = c.args.disk.now in
    let asked = c.refuse_founded.new.disk in
    let synced = c.cut_synced.new.disk in
    let P = IsUnfoundedOr c.args.chart.now in
    let bytes : d.content synced ≡ take 1 (d.content start) = c.in_ok-cut_synced.ensures.content told ∙ ap (λ (l : List ℕ). take 1 l) (c.refuse_founded.ensures.content told) in
    let short : length (d.content synced) ≤ 1 = cut_short (d.content start) (d.content synced) bytes in
    both d.moment d.was_image start asked c.lay.new.disk P
    (weaken d.moment d.was_image start asked _ P c.refuse_founded.ensures.any_moment (λ image is. inl (only_unfounded (d.content start) image unfounded (only image is))))
    (both d.moment d.was_image asked synced c.lay.new.disk P
    (weaken d.moment d.was_image asked synced _ P c.cut_synced.ensures.any_moment
    (λ image cut. inl (cut_unfounded (d.content start) image unfounded (subst (λ (l : List ℕ). HalfCut 1 l image) (only cut.0 (c.refuse_founded.ensures.images cut.0 cut.1)) cut.2))))
    (c.lay.ensures.any_moment told c.args.chart.now c.requires (c.deref.ensures.value ∙ c.in_ok-body.ensures) short (c.in_ok-cut_synced.ensures.durable told)))

pub returns-in_err-lay-clause-first_sync : goal.returns-in_err-lay-clause-first_sync
returns-in_err-lay-clause-first_sync g c =
    let d = g.D.Disk in
    λ told unfounded.
    let start = c.args.disk.now in
    let asked = c.refuse_founded.new.disk in
    let synced = c.cut_synced.new.disk in
    let P = IsCutFrom (d.is_image start) in
    let bytes : d.content synced ≡ take 1 (d.content start) = c.in_ok-cut_synced.ensures.content told ∙ ap (λ (l : List ℕ). take 1 l) (c.refuse_founded.ensures.content told) in
    let short : length (d.content synced) ≤ 1 = cut_short (d.content start) (d.content synced) bytes in
    inr (record {
      synced = synced;
      before = both d.moment d.was_image start asked synced P
          (weaken d.moment d.was_image start asked _ P c.refuse_founded.ensures.any_moment (not_cut (d.is_image start)))
          (weaken d.moment d.was_image asked synced _ P c.cut_synced.ensures.any_moment (cut_again (d.is_image start) (d.is_image asked) c.refuse_founded.ensures.images));
      bytes = bytes;
      only = c.in_ok-cut_synced.ensures.durable told;
      after = c.lay.ensures.any_moment told c.args.chart.now c.requires (c.deref.ensures.value ∙ c.in_ok-body.ensures) short (c.in_ok-cut_synced.ensures.durable told);
    })

pub returns-clause-founded : goal.returns-clause-founded
returns-clause-founded g c =
    let d = g.D.Disk in
    λ told.
    let bytes : d.content c.cut_synced.new.disk ≡ take 1 (d.content c.args.disk.now) = c.in_ok-cut_synced.ensures.content told ∙ ap (λ (l : List ℕ). take 1 l) (c.refuse_founded.ensures.content told) in
    let short : length (d.content c.cut_synced.new.disk) ≤ 1 = cut_short (d.content c.args.disk.now) (d.content c.cut_synced.new.disk) bytes in
    c.in_ok-lay.ensures.founded told c.args.chart.now c.requires (c.deref.ensures.value ∙ c.in_ok-body.ensures) short (c.in_ok-cut_synced.ensures.durable told)

pub returns-clause-any_moment : goal.returns-clause-any_moment
returns-clause-any_moment g c =
    let d = g.D.Disk in
    λ told unfounded only.
    let start = c.args.disk.now in
    let asked = c.refuse_founded.new.disk in
    let synced = c.cut_synced.new.disk in
    let P = IsUnfoundedOr c.args.chart.now in
    let bytes : d.content synced ≡ take 1 (d.content start) = c.in_ok-cut_synced.ensures.content told ∙ ap (λ (l : List ℕ). take 1 l) (c.refuse_founded.ensures.content told) in
    let short : length (d.content synced) ≤ 1 = cut_short (d.content start) (d.content synced) bytes in
    both d.moment d.was_image start asked c.lay.new.disk P
    (weaken d.moment d.was_image start asked _ P c.refuse_founded.ensures.any_moment (λ image is. inl (only_unfounded (d.content start) image unfounded (only image is))))
    (both d.moment d.was_image asked synced c.lay.new.disk P
    (weaken d.moment d.was_image asked synced _ P c.cut_synced.ensures.any_moment
    (λ image cut. inl (cut_unfounded (d.content start) image unfounded (subst (λ (l : List ℕ). HalfCut 1 l image) (only cut.0 (c.refuse_founded.ensures.images cut.0 cut.1)) cut.2))))
    (c.lay.ensures.any_moment told c.args.chart.now c.requires (c.deref.ensures.value ∙ c.in_ok-body.ensures) short (c.in_ok-cut_synced.ensures.durable told)))

pub returns-clause-first_sync : goal.returns-clause-first_sync
returns-clause-first_sync g c =
    let d = g.D.Disk in
    λ told unfounded.
    let start = c.args.disk.now in
    let asked = c.refuse_founded.new.disk in
    let synced = c.cut_synced.new.disk in
    let P = IsCutFrom (d.is_image start) in
    let bytes : d.content synced ≡ take 1 (d.content start) = c.in_ok-cut_synced.ensures.content told ∙ ap (λ (l : List ℕ). take 1 l) (c.refuse_founded.ensures.content told) in
    let short : length (d.content synced) ≤ 1 = cut_short (d.content start) (d.content synced) bytes in
    inr (record {
      synced = synced;
      before = both d.moment d.was_image start asked synced P
          (weaken d.moment d.was_image start asked _ P c.refuse_founded.ensures.any_moment (not_cut (d.is_image start)))
          (weaken d.moment d.was_image asked synced _ P c.cut_synced.ensures.any_moment (cut_again (d.is_image start) (d.is_image asked) c.refuse_founded.ensures.images));
      bytes = bytes;
      only = c.in_ok-cut_synced.ensures.durable told;
      after = c.lay.ensures.any_moment told c.args.chart.now c.requires (c.deref.ensures.value ∙ c.in_ok-body.ensures) short (c.in_ok-cut_synced.ensures.durable told);
    })
