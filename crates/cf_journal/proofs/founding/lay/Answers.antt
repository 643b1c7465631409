use Rattle.std.proofs.Common.{inl, ℕ, List, ◌∙◌, subst}
use Rattle.cf_disk.specs.Images.{Torn}
use Rattle.cf_journal.specs.Answers.{IsUnfoundedOr}
use Rattle.cf_journal.proofs.Moments.{weaken, both}
use Rattle.cf_journal.proofs.FoundingSteps.{ok_both, torn_first, first_written, torn_body, body_written, torn_opening, opening_written}
use Rattle.cf_journal.proofs.founding.lay.Goals as goal

pub returns-clause-founded : goal.returns-clause-founded
returns-clause-founded g c =
    let d = g.D.Disk in
    λ told chart accepted body_is short only.
    let start = d.content c.args.disk.now in
    let first = first_written start (d.content c.write_synced.new.disk) short (c.in_ok-write_synced.ensures.content told) in
    let second = body_written c.args.body.now (d.content c.write_synced.new.disk) (d.content c.write_synced-2.new.disk) first (c.in_ok-write_synced-2.ensures.content told) in
    ok_both c.write_synced-3.result _ _ _ (c.write_synced-3.ensures.content told) (c.write_synced-3.ensures.durable told)
    (λ content durable image is. opening_written chart accepted c.args.body.now body_is (d.content c.write_synced-2.new.disk) image second (durable image is ∙ content))

pub returns-clause-any_moment : goal.returns-clause-any_moment
returns-clause-any_moment g c =
    let d = g.D.Disk in
    λ told chart accepted body_is short only.
    let P = IsUnfoundedOr chart in
    let start = d.content c.args.disk.now in
    let first = first_written start (d.content c.write_synced.new.disk) short (c.in_ok-write_synced.ensures.content told) in
    let second = body_written c.args.body.now (d.content c.write_synced.new.disk) (d.content c.write_synced-2.new.disk) first (c.in_ok-write_synced-2.ensures.content told) in
    both d.moment d.was_image c.args.disk.now c.write_synced.new.disk c.write_synced-3.new.disk P
    (weaken d.moment d.was_image c.args.disk.now c.write_synced.new.disk _ P c.write_synced.ensures.any_moment
    (λ image torn. inl (torn_first start image short (subst (λ (l : List ℕ). Torn 0 1 l image) (only torn.0 torn.1) torn.2))))
    (both d.moment d.was_image c.write_synced.new.disk c.write_synced-2.new.disk c.write_synced-3.new.disk P
    (weaken d.moment d.was_image c.write_synced.new.disk c.write_synced-2.new.disk _ P c.write_synced-2.ensures.any_moment
    (λ image torn. inl (torn_body _ torn.0 image (c.in_ok-write_synced.ensures.durable told torn.0 torn.1 ∙ first) torn.2)))
    (weaken d.moment d.was_image c.write_synced-2.new.disk c.write_synced-3.new.disk _ P c.write_synced-3.ensures.any_moment
    (λ image torn. torn_opening chart accepted c.args.body.now body_is torn.0 image (c.in_ok-write_synced-2.ensures.durable told torn.0 torn.1 ∙ second) torn.2)))
