-- What a run of `follow` says, by its status.
use Rattle.std.specs.Prelude.{◌≡◌, ◌≢◌, ◌⊎◌, ◌≤◌, ℕ, List, [], ◌∷◌, ◌++◌, All, codes, decimal, length, take, Option, IfSome, IsTrue, Some, Err}
use Rattle.std.specs.Io.KnownBytes.{Consumes}
use Rattle.cf_model_articulation.specs.Articulates.{AllArticulate}
use Rattle.cf_journal_book.specs.Books.{RecoversNear}
use Rattle.cf_journal_book.specs.DurableState.{DurableBook}
use Rattle.cf_journal_book.specs.Recovery.{recovered}
use Rattle.cf_journal_book.specs.declared.refused.BookRefused.{BookRefused}
use Rattle.cf_journal_book.specs.declared.refused.BookRefused.TheVariants as refused
use Rattle.cf_model.specs.Common.{Entry, IsSoundState, IsLegal}
use Rattle.cf_model_closed.specs.ClosedYears.{ClosedYearsStay}
use Rattle.cf_follow.specs.Following.{FollowEnds, failed_in}
use Rattle.cf_follow.specs.Laws.{IsCopy, IsShipped}
use Rattle.cf_follow.specs.declared.end.FollowEnd.{FollowEnd}
use Rattle.cf_follow.specs.declared.end.FollowEnd.TheVariants as end
use Rattle.cf_journal.specs.Records.{HasRecord}
use Rattle.cf_journal_stream.specs.Streams.{most_chart}
use Rattle.cf_run_status.specs.declared.status.Status.{Status}
use Rattle.cf_run_status.specs.declared.status.Status.TheVariants as status
use Rattle.cf_run_follow.specs.Copies.{IsSince, book_office}
use Rattle.cf_run_status.specs.Devices.{Device}
use Rattle.cf_run_status.specs.Printing.{Prints}
use Rattle.cf_run_status.specs.Unwritten.{IsUnwritten}
use Rattle.cf_run_follow.specs.Ships.{IsOpened}

-- what is printed of a history that has so many entries
abbrev pub followed_text : ℕ → List ℕ
followed_text count = codes "followed " ++ (decimal count ++ 10 ∷ [])

-- a legal history, as a journal holds one, which a book's own is a front of
pub record Continues {D : Type 0} (book : DurableBook D) (whole : List Entry) : Type 0 where
  pub legal : IsLegal book.plan whole
  pub records : All HasRecord whole
  pub front : book.entries ≡ take (length book.entries) whole

-- A book of this chart followed the stream to this last one, whose history is the first one, or
-- that with the stream's entries of later places, as far as the end says. Where the stream was
-- shipped from a history that continues the first one, the last one is a front of that too, no
-- entry was found to differ, and none was refused. Whatever a crash leaves of the disk then
-- recovers to the last history, or to it and the entry in doubt, and that is sound too. At each
-- moment of the run it recovers to a front of the last history that has the first one, or to the
-- last history and one entry: that of the stream's record at which the disk failed. So is the entry
-- in doubt.
pub record Copied {D : Type 0} (device : Device D) (chart : List ℕ) (start last : DurableBook D)
    (new : D) (left left' : Option (List ℕ)) (how : FollowEnd) : Type 0 where
  pub ends : FollowEnds (book_office device) chart start last left left' how
  pub copies : (whole : List Entry) → Continues start whole → IsShipped chart whole left
      → IsCopy (book_office device) whole last how
  pub unfaulted : (whole : List Entry) → Continues start whole → (s : IsShipped chart whole left)
      → s.lost ≡ [] → length chart ≤ most_chart → (offset : ℕ) → how ≢ end.StreamFault offset
  pub still : last.entries ≡ start.entries → how ≢ end.DiskFault → last ≡ start
  pub since : IsSince device start last (failed_in ends)
  pub disk : new ≡ last.disk
  pub sound : IsSoundState (record { plan = last.plan; entries = last.entries })
  pub closed : ClosedYearsStay last.plan last.entries
  pub articulates : AllArticulate last.plan last.entries
  pub images : IsTrue device.tells → (image : List ℕ) → device.is_image new image
      → RecoversNear last.plan last.entries (λ e. last.doubt ≡ Some e) image
  pub doubt_sound : IfSome last.doubt (λ e.
      IsSoundState (record { plan = last.plan; entries = last.entries ++ e ∷ [] }))

-- the journal was opened, and its book followed the stream
pub record Followed {D : Type 0} (device : Device D) (old new : D) (left left' : Option (List ℕ))
    (how : FollowEnd) : Type 0 where
  pub chart : List ℕ
  pub start : DurableBook D
  pub last : DurableBook D
  pub opened : IsOpened device old chart start
  pub copied : Copied device chart start last new left left' how
  pub quiet : how ≢ end.DiskFault → device.faults new ≡ device.faults old

-- it was followed to its end, and what was printed says how many entries there are
pub record Printed {D : Type 0} (device : Device D) (old new : D)
    (left left' held held' : Option (List ℕ)) (s : Status) : Type 0 where
  pub followed : Followed device old new left left' end.Done
  pub prints : Prints (followed_text (length followed.last.entries)) held held' s

-- it stopped before that, and nothing was printed
abbrev pub Stopped : {D : Type 0} → Device D → D → D → Option (List ℕ) → Option (List ℕ)
    → Option (List ℕ) → Option (List ℕ) → FollowEnd → Type 0
Stopped device old new left left' held held' how = Followed device old new left left' how
    × (held' ≡ held)

-- no journal was opened, nothing was taken of the input or given to the output, and the disk wasn't
-- written
pub record IsUnread {D : Type 0} (device : Device D) (old new : D)
    (left left' held held' : Option (List ℕ)) : Type 0 where
  pub unwritten : IsUnwritten device old new
  pub input : Consumes left left' []
  pub out : held' ≡ held

-- .. for this reason
pub record IsClosed {D : Type 0} (device : Device D) (old new : D)
    (left left' held held' : Option (List ℕ)) (why : BookRefused) : Type 0 where
  pub unread : IsUnread device old new left left' held held'
  pub refuses : IsTrue device.tells → recovered (device.content old) ≡ Err why
  pub quiet : device.faults new ≡ device.faults old

abbrev pub FollowRunEnds : {D : Type 0} → Device D → D → D → Option (List ℕ) → Option (List ℕ)
    → Option (List ℕ) → Option (List ℕ) → Status → Type 0
FollowRunEnds device old new left left' held held' status.Ok =
    Printed device old new left left' held held' status.Ok
FollowRunEnds device old new left left' held held' status.WriteFault =
    Printed device old new left left' held held' status.WriteFault
FollowRunEnds device old new left left' held held' status.ReadFault =
    Stopped device old new left left' held held' end.ReadFault
FollowRunEnds device old new left left' held held' (status.StreamFault offset) =
    Stopped device old new left left' held held' (end.StreamFault offset)
FollowRunEnds device old new left left' held held' (status.OtherChart at) =
    Stopped device old new left left' held held' (end.OtherChart at)
FollowRunEnds device old new left left' held held' (status.Gap from count) =
    Stopped device old new left left' held held' (end.Gap from count)
FollowRunEnds device old new left left' held held' (status.Forked place) =
    Stopped device old new left left' held held' (end.Forked place)
FollowRunEnds device old new left left' held held' (status.EntryRefused place n) =
    Stopped device old new left left' held held' (end.EntryRefused place n)
FollowRunEnds device old new left left' held held' status.DiskFault =
    IsUnread device old new left left' held held'
    ⊎ Stopped device old new left left' held held' end.DiskFault
FollowRunEnds device old new left left' held held' status.NoMemory =
    IsUnread device old new left left' held held'
    ⊎ (Stopped device old new left left' held held' end.NoMemory
    ⊎ Printed device old new left left' held held' status.NoMemory)
FollowRunEnds device old new left left' held held' (status.NotFounded len byte) =
    IsClosed device old new left left' held held' (refused.NotFounded len byte)
FollowRunEnds device old new left left' held held' (status.Damaged offset refusal) =
    IsClosed device old new left left' held held' (refused.Damaged offset refusal)
FollowRunEnds device old new left left' held held' _ = ⊥

-- the status of what wasn't followed to its end
abbrev pub status_of_end : FollowEnd → Status
status_of_end end.Done = status.Ok
status_of_end end.ReadFault = status.ReadFault
status_of_end end.NoMemory = status.NoMemory
status_of_end (end.StreamFault offset) = status.StreamFault offset
status_of_end (end.OtherChart at) = status.OtherChart at
status_of_end (end.Gap from count) = status.Gap from count
status_of_end (end.Forked place) = status.Forked place
status_of_end (end.EntryRefused place n) = status.EntryRefused place n
status_of_end end.DiskFault = status.DiskFault
