use Rattle.std.proofs.Common.{◌≡◌, true, Some, rules}
use Rattle.cf_journal.specs.Journal.{in_doubt}
use Rattle.cf_journal.specs.Layout.{RecoversToEither}
use Rattle.cf_journal.proofs.Moments.{weaken}
use Rattle.cf_journal_book.specs.Books.{FramesNear}
use Rattle.cf_journal_book.specs.Snapshots.{doubt_of}
use Rattle.cf_journal_book.proofs.Keeping.{doubt_is, near_either}
use Rattle.cf_journal_book.proofs.writing.mend_doubt.Goals as goal

pub returns-in_err-mend-clause-any_moment : goal.returns-in_err-mend-clause-any_moment
returns-in_err-mend-clause-any_moment g c =
    let d = g.D.Disk in
    let is : in_doubt c.args.journal.now ≡ true = search rules in
    λ t chart h k.
    let e = doubt_is d.tells d.is_image c.args.journal.now c.args.disk.now chart h (doubt_of c.args.doubt.now) is k in
    weaken d.moment d.was_image c.args.disk.now c.mend.new.disk (RecoversToEither chart h e.0) (FramesNear chart h (λ x. doubt_of c.args.doubt.now ≡ Some x))
    (c.mend.ensures.any_moment t chart h e.0 e.2) (λ image near. near_either chart h (λ x. doubt_of c.args.doubt.now ≡ Some x) e.0 image e.1 near)

pub returns-clause-any_moment : goal.returns-clause-any_moment
returns-clause-any_moment g c =
    let d = g.D.Disk in
    let is : in_doubt c.args.journal.now ≡ true = search rules in
    λ t chart h k.
    let e = doubt_is d.tells d.is_image c.args.journal.now c.args.disk.now chart h (doubt_of c.args.doubt.now) is k in
    weaken d.moment d.was_image c.args.disk.now c.mend.new.disk (RecoversToEither chart h e.0) (FramesNear chart h (λ x. doubt_of c.args.doubt.now ≡ Some x))
    (c.mend.ensures.any_moment t chart h e.0 e.2) (λ image near. near_either chart h (λ x. doubt_of c.args.doubt.now ≡ Some x) e.0 image e.1 near)
