-- One call over an office that keeps its history on a disk.
use Rattle.std.specs.Prelude.{◌≡◌, ◌⊎◌, length, Option, Some, None}
use Rattle.cf_base.specs.Common.{Rose}
use Rattle.cf_model.specs.Common.{Call, Change, Drawn, Entry, Body, Posted, Verdict, Accept, body_of, next_of, verdict_of}
use Rattle.cf_calls.specs.declared.call.Call.TheVariants as call
use Rattle.cf_calls.specs.declared.reply.Posted.TheVariants as posted
use Rattle.cf_journal_book.specs.DurableState.{DurableState}

-- nothing is in doubt once a change is accepted: what was is mended first
abbrev pub doubt_by : Verdict → Option Entry → Option Entry
doubt_by (Accept drawn) doubt = None
doubt_by _ doubt = doubt

abbrev pub next_doubt : DurableState → Call → Option Entry
next_doubt s (call.Change c) = doubt_by (verdict_of s.plan s.entries c) s.doubt
next_doubt s (call.Look l) = s.doubt

-- the state after a reply by the step
abbrev pub next_state : DurableState → Call → DurableState
next_state s c = record s { entries = next_of s.plan s.entries c; doubt = next_doubt s c }

-- the entry that a change adds with these numbers
abbrev pub entry_by : Change → Drawn → Entry
entry_by c drawn = record { change = record c { after = None }; drawn = drawn }

-- the call is a change that the step would accept, and this is its entry
pub record WouldAdd (s : DurableState) (c : Call) (e : Entry) : Type 0 where
  pub change : Change
  pub drawn : Drawn
  pub called : c ≡ call.Change change
  pub accepts : verdict_of s.plan s.entries change ≡ Accept drawn
  pub entry : e ≡ entry_by change drawn

-- The disk failed while an accepted change was written: the history stays, and what is in doubt is
-- what was, or nothing, or the entry of this change.
pub record DiskFails (before : DurableState) (c : Call) (after : DurableState) : Type 0 where
  pub entry : Entry
  pub would : WouldAdd before c entry
  pub plan : after.plan ≡ before.plan
  pub entries : after.entries ≡ before.entries
  pub rose : Rose before.faults after.faults
  pub doubt : (after.doubt ≡ before.doubt) ⊎ ((after.doubt ≡ None) ⊎ (after.doubt ≡ Some entry))

-- What is given for a call: the step's reply, at the length of the next history; want of memory; or
-- that the disk failed, which only a change that would be accepted gets.
pub data Settles (before : DurableState) (c : Call) : Posted → DurableState → Type 0 where
  replied : (body : Body) → body_of before.plan before.entries c ≡ body
      → Settles before c (posted.Reply
      (record { at = length (next_of before.plan before.entries c); body = body }))
      (next_state before c)
  memory : Settles before c posted.NoMemory before
  failed : (after : DurableState) → DiskFails before c after → Settles before c posted.Disk after
