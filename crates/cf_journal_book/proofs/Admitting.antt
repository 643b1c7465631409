-- What an entry of another history comes to, from what `accept` says.
use Rattle.std.proofs.Common.{◌≡◌, [], ◌∷◌, ◌++◌, length, length-append, None, sym, ap, ◌∙◌, refl, arith}
use Rattle.cf_calls.specs.Common.{IsEntryInForm}
use Rattle.cf_calls.specs.declared.call.Call.TheVariants as call
use Rattle.cf_model.specs.Common.{Entry, Posted, Reply, Verdict, next_by}
use Rattle.cf_calls.specs.declared.reply.Posted.TheVariants as posted
use Rattle.cf_journal_book.specs.Admitting.{Admits, grown_by, kept_as}
use Rattle.cf_journal_book.specs.DurableState.{DurableState}
use Rattle.cf_journal_book.specs.Recovery.{entry_refusal}
use Rattle.cf_journal_book.specs.Settling.{Settles, doubt_by, entry_by, next_state}
use Rattle.cf_follow.specs.declared.follower.Admission.{Admission}
use Rattle.cf_follow.specs.declared.follower.Admission.TheVariants as admission
use Rattle.cf_journal_book.proofs.Recovering.{taken_adds}

same_entry : (e : Entry) → e.change.after ≡ None → entry_by e.change e.drawn ≡ e
same_entry e none = λ i. record { change = record e.change { after = sym none i }; drawn = e.drawn }

-- the state after the step's reply
grown : (s : DurableState) (e : Entry) → IsEntryInForm e → entry_refusal s.plan s.entries e ≡ None → next_state s (call.Change e.change) ≡ grown_by s e
grown s e form none =
    ap (λ (v : Verdict). let t : DurableState = record s { entries = next_by v s.entries e.change; doubt = doubt_by v s.doubt } in t) (taken_adds s.plan s.entries e form none).accepts
    ∙ ap (grown_by s) (same_entry e form.no_after)

-- what is said where this was given, and the history grew
abbrev said_by : Posted → Admission
said_by (posted.Reply r) = admission.Added
said_by posted.NoMemory = admission.NoMemory
said_by posted.Disk = admission.Disk

admits_given : (s : DurableState) (e : Entry) (given : Posted) (after : DurableState) → IsEntryInForm e → entry_refusal s.plan s.entries e ≡ None → Settles s (call.Change e.change) given after → Admits s e (said_by given) after
admits_given s e given after form none (Settles.replied body says) = (none, grown s e form none)
admits_given s e given after form none Settles.memory = refl
admits_given s e given after form none (Settles.failed _ fails) = (none, fails)

-- a reply was given, so it was added
pub admits_added : (s : DurableState) (e : Entry) (r : Reply) (after : DurableState) → IsEntryInForm e → entry_refusal s.plan s.entries e ≡ None → Settles s (call.Change e.change) (posted.Reply r) after → Admits s e admission.Added after
admits_added s e r after form none settles = admits_given s e (posted.Reply r) after form none settles

-- the history stayed, so no reply was given
pub admits_kept : (s : DurableState) (e : Entry) (given : Posted) (after : DurableState) → IsEntryInForm e → entry_refusal s.plan s.entries e ≡ None → after.entries ≡ s.entries → Settles s (call.Change e.change) given after
    → Admits s e (kept_as given) after
admits_kept s e given after form none stays (Settles.replied body says) =
    let longer : s.entries ++ e ∷ [] ≡ s.entries = sym (ap (λ (t : DurableState). t.entries) (grown s e form none)) ∙ stays in
    absurd (omega (arith, ap length longer, length-append s.entries (e ∷ [])))
admits_kept s e given after form none stays Settles.memory = refl
admits_kept s e given after form none stays (Settles.failed _ fails) = (none, fails)

-- the history stayed and want of memory is said, so it was given
pub kept_memory : (s : DurableState) (e : Entry) (given : Posted) (after : DurableState) (P : Type 0) → IsEntryInForm e → entry_refusal s.plan s.entries e ≡ None → after.entries ≡ s.entries → Settles s (call.Change e.change) given after
    → (given ≡ posted.NoMemory → P) → kept_as given ≡ admission.NoMemory → P
kept_memory s e given after P form none stays (Settles.replied body says) leaves said =
    let longer : s.entries ++ e ∷ [] ≡ s.entries = sym (ap (λ (t : DurableState). t.entries) (grown s e form none)) ∙ stays in
    absurd (omega (arith, ap length longer, length-append s.entries (e ∷ [])))
kept_memory s e given after P form none stays Settles.memory leaves said = leaves refl
kept_memory s e given after P form none stays (Settles.failed _ fails) leaves said = let other : admission.Disk ≡ admission.NoMemory = said in cc
