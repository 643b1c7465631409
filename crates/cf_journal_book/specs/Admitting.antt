-- An entry of another history, taken by an office that keeps its own on a disk.
use Rattle.std.specs.Prelude.{◌≡◌, [], ◌∷◌, ◌++◌, Some, None}
use Rattle.cf_calls.specs.declared.call.Call.TheVariants as call
use Rattle.cf_model.specs.Common.{Entry, Posted}
use Rattle.cf_calls.specs.declared.reply.Posted.TheVariants as posted
use Rattle.cf_journal_book.specs.DurableState.{DurableState}
use Rattle.cf_journal_book.specs.Recovery.{entry_refusal}
use Rattle.cf_journal_book.specs.Settling.{DiskFails}
use Rattle.cf_follow.specs.declared.follower.Admission.{Admission}
use Rattle.cf_follow.specs.declared.follower.Admission.TheVariants as admission

-- the state with the entry, and nothing in doubt
abbrev pub grown_by : DurableState → Entry → DurableState
grown_by s e = record s { entries = s.entries ++ e ∷ []; doubt = None }

-- what is said of an entry: it is added exactly where the office would take it again behind its
-- history. A refusal and want of memory change nothing, and a fault of the disk leaves the history.
abbrev pub Admits : DurableState → Entry → Admission → DurableState → Type 0
Admits before e admission.Added after = (entry_refusal before.plan before.entries e ≡ None)
    × (after ≡ grown_by before e)
Admits before e (admission.Refused n) after = (entry_refusal before.plan before.entries e ≡ Some n)
    × (after ≡ before)
Admits before e admission.NoMemory after = after ≡ before
Admits before e admission.Disk after = (entry_refusal before.plan before.entries e ≡ None)
    × DiskFails before (call.Change e.change) after

-- what was given where it wasn't added
abbrev pub kept_as : Posted → Admission
kept_as posted.Disk = admission.Disk
kept_as _ = admission.NoMemory
