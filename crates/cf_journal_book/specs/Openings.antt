-- What opening a book answers.
use Rattle.std.specs.Prelude.{◌≡◌, ◌≢◌, ⊤, ℕ, Bool, IsTrue, List, Vec, Option, Some, None, Result, Ok, Err}
use Rattle.std.specs.declared.alloc.Global.{Global}
use Rattle.cf_base.specs.Common.{Rose}
use Rattle.cf_disk.specs.Images.{IsOnlyImage}
use Rattle.cf_disk.specs.Moments.{AtEachMoment}
use Rattle.cf_journal.specs.declared.journal.Journal.{Journal}
use Rattle.cf_model.specs.Common.{OfficeState}
use Rattle.cf_office.specs.BookState.{BookState}
use Rattle.cf_journal_book.specs.DurableState.{DurableBook}
use Rattle.cf_journal_book.specs.Recovery.{recovered}
use Rattle.cf_journal_book.specs.declared.refused.BookRefused.{BookRefused}
use Rattle.cf_journal_book.specs.declared.refused.BookRefused.TheVariants.{NotFounded, Damaged, NoMemory, Disk}

abbrev pub office_state : BookState → OfficeState
office_state o = record { plan = o.plan; entries = o.entries }

-- a refusal that isn't free is this one
abbrev pub Refuses : {A : Type 0} → BookRefused → Result A BookRefused → Type 0
Refuses Disk x = ⊤
Refuses NoMemory x = ⊤
Refuses (NotFounded len byte) x = x ≡ Err (NotFounded len byte)
Refuses (Damaged offset refusal) x = x ≡ Err (Damaged offset refusal)

-- opening gives what the bytes recover to; a fault of the disk and want of memory are free
abbrev pub Reopens : Result (BookState × Journal × Vec ℕ Global) BookRefused
    → Result OfficeState BookRefused → Type 0
Reopens (Ok x) recovers = recovers ≡ Ok (office_state x.0)
Reopens (Err e) recovers = Refuses e recovers

-- the book of a disk was opened: it is that of what the disk's content recovers to, and nothing was
-- written
pub record OpensBook {D : Type 0} (tells : Bool) (content : D → List ℕ)
    (is_image : D → List ℕ → Type 0) (moment : D → ℕ) (was_image : D → ℕ → List ℕ → Type 0)
    (faults : D → ℕ) (old : D) (book : DurableBook D) : Type 0 where
  pub recovers : IsTrue tells
      → recovered (content old) ≡ Ok (record { plan = book.plan; entries = book.entries })
  pub clear : book.doubt ≡ None
  pub reads : IsTrue tells → content book.disk ≡ content old
  pub durable : IsTrue tells → IsOnlyImage (content book.disk) (is_image book.disk)
  pub any_moment : AtEachMoment moment was_image old book.disk (is_image old)
  pub quiet : faults book.disk ≡ faults old

-- no book was opened, and nothing was written
pub record OpensNone {D : Type 0} (tells : Bool) (content : D → List ℕ)
    (is_image : D → List ℕ → Type 0) (moment : D → ℕ) (was_image : D → ℕ → List ℕ → Type 0)
    (faults : D → ℕ) (old new : D) (why : BookRefused) : Type 0 where
  pub refuses : IsTrue tells → Refuses why (recovered (content old))
  pub reads : IsTrue tells → content new ≡ content old
  pub any_moment : AtEachMoment moment was_image old new (is_image old)
  pub cause : why ≡ Disk → Rose (faults old) (faults new)
  pub quiet : why ≢ Disk → faults new ≡ faults old

-- ---- taking entries again

-- the entry is taken, or damage at its gate with the number of the refusal
abbrev pub Readmits : {A : Type 0} → Result A BookRefused → ℕ → Option ℕ → Type 0
Readmits (Ok _) gate refusal = refusal ≡ None
Readmits (Err NoMemory) gate refusal = ⊤
Readmits (Err (Damaged offset (Some n))) gate refusal = (offset ≡ gate) × (refusal ≡ Some n)
Readmits (Err _) gate refusal = ⊥

-- all entries are taken, or damage at the first that is refused
abbrev pub Replays : {A : Type 0} → Result A BookRefused → Option (ℕ × ℕ) → Type 0
Replays (Ok _) first = first ≡ None
Replays (Err NoMemory) first = ⊤
Replays (Err (Damaged offset (Some n))) first = first ≡ Some (offset, n)
Replays (Err _) first = ⊥
