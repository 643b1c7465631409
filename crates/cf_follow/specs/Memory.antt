-- An office in memory that follows.
use Rattle.std.specs.Prelude.{◌≤◌, ℕ, ◌==◌, nat_lt, if◌then◌else◌, List, All, length, Option, Some, None}
use Rattle.cf_base.specs.Common.{most_entries}
use Rattle.cf_calls.specs.declared.entry.Entry.{Entry}
use Rattle.cf_calls.specs.Common.{IsEntryInForm}

pub record MemoryState : Type 0 where
  pub entries : List Entry
  -- the desk whose entries it refuses
  pub refuses : ℕ

-- entries of one desk are refused, and all where the history is full
abbrev pub refusal_in : MemoryState → Entry → Option ℕ
refusal_in s e = if e.change.desk == s.refuses then Some 1
    else (if nat_lt (length s.entries) most_entries then None else Some 5)

pub record IsMemory (entries : List Entry) : Type 0 where
  pub form : All IsEntryInForm entries
  pub few : length entries ≤ most_entries
