use Rattle.std.proofs.Common.{◌≡◌, ℕ, List, Option, Some, inl, inr}
use Rattle.cf_model.specs.Common.{Entry}
use Rattle.cf_disk.specs.Moments.{AtEachMoment}
use Rattle.cf_journal.specs.Layout.{RecoversTo}
use Rattle.cf_journal.proofs.Appending.{on_err}
use Rattle.cf_journal.proofs.Moments.{weaken}
use Rattle.cf_journal_book.specs.Books.{FramesNear}
use Rattle.cf_journal_book.specs.Snapshots.{doubt_of, IsOneOf}
use Rattle.cf_journal_book.proofs.Keeping.{joined, near_weaker, settled_keeps}
use Rattle.cf_journal_book.proofs.writing.write.Goals as goal

pub returns-in_err-mend_doubt-clause-any_moment : goal.returns-in_err-mend_doubt-clause-any_moment
returns-in_err-mend_doubt-clause-any_moment g c =
    let d = g.D.Disk in
    let before = doubt_of c.args.doubt.now in
    let entry = c.args.entry.value in
    λ t chart h k.
    weaken d.moment d.was_image c.args.disk.now c.mend_doubt.new.disk (FramesNear chart h (λ e. before ≡ Some e)) (FramesNear chart h (IsOneOf before entry)) (c.mend_doubt.ensures.any_moment t chart h k)
    (λ image near. near_weaker chart h (λ e. before ≡ Some e) (IsOneOf before entry) image (λ e is. inl is) near)

-- up to the end of a raise
mended_near : {D : Type 0} (moment : D → ℕ) (was_image : D → ℕ → List ℕ → Type 0) (start mended raised : D) (before : Option Entry) (entry : Entry) (chart : List ℕ) (h : List Entry)
    → AtEachMoment moment was_image start mended (FramesNear chart h (λ e. before ≡ Some e)) → AtEachMoment moment was_image mended raised (RecoversTo chart h)
    → AtEachMoment moment was_image start raised (FramesNear chart h (IsOneOf before entry))
mended_near moment was_image start mended raised before entry chart h first second =
    joined moment was_image start mended raised (FramesNear chart h (λ e. before ≡ Some e)) (RecoversTo chart h) (FramesNear chart h (IsOneOf before entry)) first second
    (λ image near. near_weaker chart h (λ e. before ≡ Some e) (IsOneOf before entry) image (λ e is. inl is) near) (λ image without. inl without)

-- the raise failed
pub returns-in_err-raise_for-clause-err : goal.returns-in_err-raise_for-clause-err
returns-in_err-raise_for-clause-err g c =
    on_err c.from_residual-in_err-raise_for.result _ (λ chart h k.
    settled_keeps g.D.Disk.tells g.D.Disk.is_image c.raise_for.new.journal c.raise_for.new.disk chart h (doubt_of c.mend_doubt.new.doubt) c.in_ok-mend_doubt.ensures.none
    (c.raise_for.ensures.settled chart h (c.in_ok-mend_doubt.ensures.ok chart h k)))

pub returns-in_err-raise_for-clause-any_moment : goal.returns-in_err-raise_for-clause-any_moment
returns-in_err-raise_for-clause-any_moment g c =
    let d = g.D.Disk in
    λ t chart h k.
    mended_near d.moment d.was_image c.args.disk.now c.mend_doubt.new.disk c.raise_for.new.disk (doubt_of c.args.doubt.now) c.args.entry.value chart h
    (c.mend_doubt.ensures.any_moment t chart h k) (c.raise_for.ensures.any_moment t chart h (c.in_ok-mend_doubt.ensures.ok chart h k))

pub returns-clause-any_moment : goal.returns-clause-any_moment
returns-clause-any_moment g c =
    let d = g.D.Disk in
    let before = doubt_of c.args.doubt.now in
    let entry = c.args.entry.value in
    λ t chart h k.
    let settled = c.in_ok-mend_doubt.ensures.ok chart h k in
    joined d.moment d.was_image c.args.disk.now c.raise_for.new.disk c.append.new.disk (FramesNear chart h (IsOneOf before entry)) (FramesNear chart h (λ e. e ≡ entry)) (FramesNear chart h (IsOneOf before entry))
    (mended_near d.moment d.was_image c.args.disk.now c.mend_doubt.new.disk c.raise_for.new.disk before entry chart h (c.mend_doubt.ensures.any_moment t chart h k) (c.raise_for.ensures.any_moment t chart h settled))
    (c.append.ensures.any_moment t chart h (c.raise_for.ensures.settled chart h settled))
    (λ image near. near)
    (λ image near. near_weaker chart h (λ e. e ≡ entry) (IsOneOf before entry) image (λ e is. inr is) near)
