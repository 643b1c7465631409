-- The payload of an entry, and the entry whose payload stands at the front of bytes.
use Rattle.std.specs.Prelude.{◌≡◌, ℕ, ◌-◌, ◌<◌, Bool, true, nat_le, List, length, take, None, Result, Ok, Err}
use Rattle.cf_base.specs.declared.calendar.Day.{Day}
use Rattle.cf_calls.specs.declared.acts.Act.{Act}
use Rattle.cf_calls.specs.declared.entry.Drawn.{Drawn}
use Rattle.cf_calls.specs.declared.entry.Entry.{Entry}
use Rattle.cf_calls.specs.Common.{IsEntryInForm, draws_of, kind_of}
use Rattle.cf_calls.specs.declared.kind.ActKind.{ActKind}
use Rattle.cf_calls.specs.declared.kind.ActKind.TheVariants as kind
use Rattle.cf_calls.specs.declared.kind.Draws.{Draws}
use Rattle.cf_calls.specs.declared.kind.Draws.TheVariants.{Nothing, Number, Both, Payment}
use Rattle.cf_codec_fields.specs.Formats.{Format, kept, field, ◌>>=◌, done}
use Rattle.cf_codec_fields.specs.Fields.{half, word, key, day}
use Rattle.cf_codec_fields.specs.Kinds.{kind_in, is_of}
use Rattle.cf_codec.specs.Acts.{act_for}

-- a bond is issued, and a lease begins, on a day from 1 to 28 of a month
abbrev pub may_be_on : ActKind → Day → Bool
may_be_on kind.Issue d = nat_le d.day 28
may_be_on kind.Lease d = nat_le d.day 28
may_be_on _ d = true

abbrev pub on_for : ActKind → Format Day
on_for kind = kept (may_be_on kind) day

-- ---- the drawn numbers: none, one, two, or the number of a debt payment in 2 bytes

abbrev pub none_drawn : Format Drawn
none_drawn = done (record { number = 0; second = 0 })

abbrev pub one_drawn : Format Drawn
one_drawn = do
  number ← field (λ d. d.number) word
  done (record { number = number; second = 0 })

abbrev pub two_drawn : Format Drawn
two_drawn = do
  number ← field (λ d. d.number) word
  second ← field (λ d. d.second) word
  done (record { number = number; second = second })

abbrev pub payment_drawn : Format Drawn
payment_drawn = do
  number ← field (λ d. d.number) half
  done (record { number = number; second = 0 })

abbrev pub drawn_as : Draws → Format Drawn
drawn_as Nothing = none_drawn
drawn_as Number = one_drawn
drawn_as Both = two_drawn
drawn_as Payment = payment_drawn

-- a debt payment's number fits its 2 bytes
abbrev pub IsDrawnShort : Draws → Drawn → Type 0
IsDrawnShort Payment d = d.number < 65536
IsDrawnShort _ d = Unit {0}

abbrev pub drawn_for : Act → Format Drawn
drawn_for a = drawn_as (draws_of a)

-- ---- entries

-- in the grammar of a version, which has to do with reading alone
abbrev pub entry_in : ℕ → Format Entry
entry_in version = do
  kind ← field (λ e. kind_of e.change.act) (kind_in version)
  desk ← field (λ e. e.change.desk) half
  key ← field (λ e. e.change.key) key
  on ← field (λ e. e.change.on) (on_for kind)
  act ← field (λ e. e.change.act) (act_for kind on)
  drawn ← field (λ e. e.drawn) (drawn_for act)
  done (record {
    change = record { desk = desk; key = key; on = on; after = None; act = act };
    drawn = drawn;
  })

-- every entry has its payload in version 2
abbrev pub entry : Format Entry
entry = entry_in 2

-- an entry of the grammar of a version
abbrev pub IsOf : ℕ → Entry → Type 0
IsOf version e = is_of version (kind_of e.change.act) ≡ true

-- the payload of an entry
unfoldable pub payload : Entry → List ℕ
payload e = entry.bytes e

-- the entry and the length of its payload, or the offset of the first faulty field
abbrev pub placed : List ℕ → Result (Entry × List ℕ) ℕ → Result (Entry × ℕ) ℕ
placed bytes (Ok x) = Ok (x.0, length bytes - length x.1)
placed bytes (Err left) = Err (length bytes - left)

-- the entry whose payload the first of these bytes are, and how many they are; else the offset of
-- the first faulty field
unfoldable pub read_of : ℕ → List ℕ → Result (Entry × ℕ) ℕ
read_of version bytes = placed bytes ((entry_in version).read bytes)

-- an entry that has a payload: it is in form, and its numbers fit their fields, as those of an
-- `Entry` do
pub record HasPayload (e : Entry) : Type 0 where
  pub form : IsEntryInForm e
  pub fits : entry.fits e

-- the first `n` bytes are the payload of an entry
pub record BeginsWith (bytes : List ℕ) (e : Entry) (n : ℕ) : Type 0 where
  pub entry : HasPayload e
  pub front : take n bytes ≡ payload e
  pub count : n ≡ length (payload e)
