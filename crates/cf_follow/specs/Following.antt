-- Following a stream to its end, or as far as it goes.
use Rattle.std.specs.Prelude.{◌≡◌, ◌≢◌, ℕ, ◌+◌, ◌-◌, ◌<◌, ◌≤◌, ◌^◌, List, [], ◌∷◌, ◌++◌, All, length, take, drop, slice_get, Option, Some, None}
use Rattle.std.specs.Io.KnownBytes.{Consumes}
use Rattle.cf_calls.specs.declared.entry.Entry.{Entry}
use Rattle.cf_codec.specs.Entries.{payload}
use Rattle.cf_journal.specs.Records.{records_of}
use Rattle.cf_journal_stream.specs.Streams.{HasFrame, HeadFault, HeadPart, RecordFault, RecordPart, most_chart, head_of, frame_of}
use Rattle.cf_journal_stream.specs.Readings.{ReadsHead}
use Rattle.cf_follow.specs.Admitting.{Office, Fails}
use Rattle.cf_follow.specs.declared.end.FollowEnd.{FollowEnd}
use Rattle.cf_follow.specs.declared.end.FollowEnd.TheVariants.{Done, ReadFault, NoMemory, StreamFault, OtherChart, Gap, Forked, EntryRefused, DiskFault}

-- two texts differ first at this place, or at the shorter one's end
pub record DifferAt (a b : List ℕ) (at : ℕ) : Type 0 where
  pub in_a : at ≤ length a
  pub in_b : at ≤ length b
  pub same : take at a ≡ take at b
  pub differ : slice_get a at ≢ slice_get b at

-- The front of a stream wasn't read, or isn't one for an office of this chart and this many
-- entries. Where a read failed, fewer bytes were taken than the front has, and for want of memory
-- no more than it has.
pub data HeadEnds (chart : List ℕ) (len : ℕ) (left left' : Option (List ℕ)) : FollowEnd
    → Type 0 where
  read_fault : (bytes : List ℕ) → Consumes left left' bytes → HeadPart 0 bytes
      → HeadEnds chart len left left' ReadFault
  memory : (bytes : List ℕ) → Consumes left left' bytes → HeadPart 1 bytes
      → HeadEnds chart len left left' NoMemory
  fault : (bytes : List ℕ) (k : ℕ) → Consumes left left' bytes → HeadFault left' bytes k
      → HeadEnds chart len left left' (StreamFault k)
  other_chart : (from : ℕ) (theirs : List ℕ) (at : ℕ) → ReadsHead left left' from theirs
      → DifferAt chart theirs at → HeadEnds chart len left left' (OtherChart at)
  gap : (from : ℕ) → ReadsHead left left' from chart → len < from
      → HeadEnds chart len left left' (Gap from len)

-- The entries of the records so far, which stand behind the first FROM, are those of the history at
-- their places; and that is the old one with those of later places.
pub record Follows {X : Type 0} (from : ℕ) (before es after : List X) : Type 0 where
  pub within : from ≤ length before
  pub stand : take (length es) (drop from after) ≡ es
  pub grows : after ≡ before ++ drop (length before - from) es

-- the bytes are the record of an entry
pub record IsFrameOf (bytes : List ℕ) (e : Entry) : Type 0 where
  pub has : HasFrame e
  pub bytes_are : bytes ≡ frame_of (payload e)

-- why it stops behind the records of the entries so far: the office as it is then, how many entries
-- stand before the next record, where that record begins, the bytes that were taken of it, and the
-- office as it is left. Where a read failed, they are fewer than a record, and for want of memory
-- no more than one.
pub data Stops {F : Type 0} (o : Office F) (now : F) (place at : ℕ) (bytes : List ℕ)
    (left : Option (List ℕ)) (after : F) : FollowEnd → Type 0 where
  done : bytes ≡ 0 ∷ [] → after ≡ now → Stops o now place at bytes left after Done
  read_fault : RecordPart 0 bytes → after ≡ now → Stops o now place at bytes left after ReadFault
  memory : RecordPart 1 bytes → after ≡ now → Stops o now place at bytes left after NoMemory
  fault : (k : ℕ) → RecordFault left bytes k → after ≡ now
      → Stops o now place at bytes left after (StreamFault (at + k))
  forked : (e own : Entry) → IsFrameOf bytes e → slice_get (o.history now) place ≡ Some own
      → own ≢ e → after ≡ now → Stops o now place at bytes left after (Forked (place + 1))
  refused : (e : Entry) (n : ℕ) → IsFrameOf bytes e → place ≡ length (o.history now)
      → o.refusal now e ≡ Some n → after ≡ now
      → Stops o now place at bytes left after (EntryRefused (place + 1) n)
  failed : (e : Entry) → IsFrameOf bytes e → place ≡ length (o.history now) → Fails o now e after
      → Stops o now place at bytes left after DiskFault

-- FROM, the chart and the records of these entries were taken, and the office follows them
pub record Following {F : Type 0} (o : Office F) (chart : List ℕ) (start now : F)
    (left left' : Option (List ℕ)) (from : ℕ) (es : List Entry) : Type 0 where
  pub small : from < 2 ^ 64
  pub short : length chart ≤ most_chart
  pub frames : All HasFrame es
  pub took : Consumes left left' (head_of from chart ++ records_of es)
  pub follows : Follows from (o.history start) es (o.history now)
  pub quiet : o.faults now ≡ o.faults start
  pub since : o.since start now None

-- it stopped behind the records of these entries
pub record StopsBehind {F : Type 0} (o : Office F) (chart : List ℕ) (start after : F)
    (left left' : Option (List ℕ)) (how : FollowEnd) : Type 0 where
  pub from : ℕ
  pub es : List Entry
  pub now : F
  pub middle : Option (List ℕ)
  pub bytes : List ℕ
  pub following : Following o chart start now left middle from es
  pub took : Consumes middle left' bytes
  pub stops : Stops o now (from + length es)
      (length (head_of from chart ++ records_of es)) bytes left' after how

-- how following a stream ends: at its front, where nothing changes, or behind records
pub data FollowEnds {F : Type 0} (o : Office F) (chart : List ℕ) (start after : F)
    (left left' : Option (List ℕ)) (how : FollowEnd) : Type 0 where
  front : HeadEnds chart (length (o.history start)) left left' how → after ≡ start
      → FollowEnds o chart start after left left' how
  behind : StopsBehind o chart start after left left' how
      → FollowEnds o chart start after left left' how

-- the entry of the record at which the disk failed, where it did
abbrev pub failed_stop : {F : Type 0} {o : Office F} {now : F} {place at : ℕ} {bytes : List ℕ}
    {left : Option (List ℕ)} {after : F} {how : FollowEnd}
    → Stops o now place at bytes left after how → Option Entry
failed_stop (Stops.failed e is ends fails) = Some e
failed_stop _ = None

abbrev pub failed_in : {F : Type 0} {o : Office F} {chart : List ℕ} {start after : F}
    {left left' : Option (List ℕ)} {how : FollowEnd}
    → FollowEnds o chart start after left left' how → Option Entry
failed_in (FollowEnds.front is same) = None
failed_in (FollowEnds.behind b) = failed_stop b.stops
