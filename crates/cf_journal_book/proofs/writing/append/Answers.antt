use Rattle.std.proofs.Common.{◌≡◌, true, false, refl, rules}
use Rattle.cf_journal.specs.Journal.{in_doubt}
use Rattle.cf_journal.specs.Layout.{RecoversToEither}
use Rattle.cf_journal.proofs.Moments.{weaken}
use Rattle.cf_journal_book.specs.Books.{FramesNear}
use Rattle.cf_journal_book.specs.Snapshots.{doubt_of}
use Rattle.cf_journal_book.proofs.Keeping.{near_either, settled_keeps}
use Rattle.cf_journal_book.proofs.writing.append.Goals as goal

pub returns-then-in_doubt-clause-err : goal.returns-then-in_doubt-clause-err
returns-then-in_doubt-clause-err g c =
    let is : in_doubt c.append.new.self ≡ true = search rules in
    λ chart h settled. (c.in-Err.ensures.err chart h c.args.entry.value settled c.requires.reserved).doubt is

pub returns-then-in_doubt-clause-any_moment : goal.returns-then-in_doubt-clause-any_moment
returns-then-in_doubt-clause-any_moment g c =
    let d = g.D.Disk in
    λ t chart h settled.
    weaken d.moment d.was_image c.args.disk.now c.append.new.disk (RecoversToEither chart h c.args.entry.value) (FramesNear chart h (λ e. e ≡ c.args.entry.value))
    (c.append.ensures.any_moment t chart h c.args.entry.value settled c.requires.reserved) (λ image near. near_either chart h (λ e. e ≡ c.args.entry.value) c.args.entry.value image refl near)

pub returns-else-in_doubt-clause-err : goal.returns-else-in_doubt-clause-err
returns-else-in_doubt-clause-err g c =
    let is : in_doubt c.append.new.self ≡ false = search rules in
    λ chart h settled.
    settled_keeps g.D.Disk.tells g.D.Disk.is_image c.append.new.self c.append.new.disk chart h (doubt_of c.args.doubt.now) c.requires.none
    ((c.in-Err.ensures.err chart h c.args.entry.value settled c.requires.reserved).clear is)

pub returns-in-Ok-clause-any_moment : goal.returns-in-Ok-clause-any_moment
returns-in-Ok-clause-any_moment g c =
    let d = g.D.Disk in
    λ t chart h settled.
    weaken d.moment d.was_image c.args.disk.now c.append.new.disk (RecoversToEither chart h c.args.entry.value) (FramesNear chart h (λ e. e ≡ c.args.entry.value))
    (c.append.ensures.any_moment t chart h c.args.entry.value settled c.requires.reserved) (λ image near. near_either chart h (λ e. e ≡ c.args.entry.value) c.args.entry.value image refl near)

pub returns-else-in_doubt-clause-any_moment : goal.returns-else-in_doubt-clause-any_moment
returns-else-in_doubt-clause-any_moment g c =
    let d = g.D.Disk in
    λ t chart h settled.
    weaken d.moment d.was_image c.args.disk.now c.append.new.disk (RecoversToEither chart h c.args.entry.value) (FramesNear chart h (λ e. e ≡ c.args.entry.value))
    (c.append.ensures.any_moment t chart h c.args.entry.value settled c.requires.reserved) (λ image near. near_either chart h (λ e. e ≡ c.args.entry.value) c.args.entry.value image refl near)
