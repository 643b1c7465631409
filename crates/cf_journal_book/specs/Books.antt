-- A book: an office with its journal and its disk.
use Rattle.std.specs.Prelude.{◌≡◌, ◌⊎◌, ℕ, Bool, true, false, List, ◌∷◌, ◌++◌, [], Option, Some, None, IfSome, Ok}
use Rattle.cf_model.specs.Common.{Call, Entry, Posted, Verdict, Accept, Adds, IsLegal, verdict_of}
use Rattle.cf_calls.specs.declared.call.Call.TheVariants as call
use Rattle.cf_calls.specs.declared.reply.Posted.TheVariants as posted
use Rattle.cf_chart.specs.Common.{chart_of, Plan}
use Rattle.cf_journal.specs.Journal.{IsSettled, IsInDoubt}
use Rattle.cf_journal.specs.Layout.{RecoversTo as FramesTo}
use Rattle.cf_journal.specs.declared.journal.Journal.{Journal}
use Rattle.cf_journal_book.specs.DurableState.{DurableState}
use Rattle.cf_journal_book.specs.Recovery.{RecoversTo}
use Rattle.cf_journal_book.specs.Settling.{WouldAdd}

-- the journal keeps the history, and this entry is in doubt, where one is
abbrev pub Keeps : {D : Type 0} → Bool → (D → List ℕ → Type 0) → Journal → D → List ℕ → List Entry
    → Option Entry → Type 0
Keeps tells is_image journal disk chart history None =
    IsSettled tells is_image journal disk chart history
Keeps tells is_image journal disk chart history (Some e) =
    IsInDoubt tells is_image journal disk chart history e

-- What a book's type promises: its history is legal, these bytes state its chart, its journal keeps
-- the history on its disk, and the entry in doubt is one that the step would add.
pub record IsKept {D : Type 0} (tells : Bool) (is_image : D → List ℕ → Type 0) (plan : Plan)
    (history : List Entry) (journal : Journal) (disk : D) (chart : List ℕ)
    (doubt : Option Entry) : Type 0 where
  pub legal : IsLegal plan history
  pub states : chart_of chart ≡ Ok plan
  pub kept : Keeps tells is_image journal disk chart history doubt
  pub adds : IfSome doubt (Adds plan history)

-- ---- one call

-- whether the rules accept a call as a change of this history
abbrev pub is_accept : Verdict → Bool
is_accept (Accept drawn) = true
is_accept _ = false

abbrev pub accepts : Plan → List Entry → Call → Bool
accepts plan history (call.Change c) = is_accept (verdict_of plan history c)
accepts plan history (call.Look l) = false

-- whether a reply was given
abbrev pub is_reply : Posted → Bool
is_reply (posted.Reply r) = true
is_reply _ = false

-- an entry in hand during a call: it was in doubt before, or the call would add it
abbrev pub IsInHand : DurableState → Call → Entry → Type 0
IsInHand s c e = (s.doubt ≡ Some e) ⊎ WouldAdd s c e

-- ---- what a crash leaves

-- the bytes recover to the history, or to it and one entry that is of this kind
abbrev pub RecoversNear : Plan → List Entry → (Entry → Type 0) → List ℕ → Type 0
RecoversNear plan history P image = RecoversTo plan history image
    ⊎ ((e : Entry) × P e × RecoversTo plan (history ++ e ∷ []) image)

-- the same of the journal's frames
abbrev pub FramesNear : List ℕ → List Entry → (Entry → Type 0) → List ℕ → Type 0
FramesNear chart history P image = FramesTo chart history image
    ⊎ ((e : Entry) × P e × FramesTo chart (history ++ e ∷ []) image)

-- ---- writing an entry

-- what is in doubt after a write that failed
abbrev pub IsDoubtAfter : Option Entry → Entry → Option Entry → Type 0
IsDoubtAfter before entry after = (after ≡ before) ⊎ ((after ≡ None) ⊎ (after ≡ Some entry))
