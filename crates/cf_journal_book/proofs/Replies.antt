-- What an office says of a call, as the book gives it.
use Rattle.std.proofs.Common.{◌≡◌, ℕ, if◌then◌else◌, [], ◌∷◌, ◌++◌, length, Some, None, refl, sym, ap, subst, ◌∙◌}
use Rattle.cf_base.specs.Common.{Rose}
use Rattle.cf_model.specs.Common.{Call, Change, Look, Drawn, Refusal, Body, Done, Refused, Made, Posted, Reply, Verdict, Accept, Repeat, Refuse, registers_of, made_at, made_of, verdict_of, change_body, next_by, next_of}
use Rattle.cf_calls.specs.declared.call.Call.TheVariants as call
use Rattle.cf_calls.specs.declared.reply.Posted.TheVariants as posted
use Rattle.cf_office_looks.specs.Posts.{Posts}
use Rattle.cf_journal_book.specs.Books.{is_reply, IsDoubtAfter}
use Rattle.cf_journal_book.specs.DurableState.{DurableState}
use Rattle.cf_journal_book.specs.Settling.{Settles, doubt_by, entry_by}

-- a look leaves the state
pub look_settles : (s : DurableState) (l : Look) (given : Posted) → Posts s.plan s.entries (call.Look l) s.entries given → Settles s (call.Look l) given s
look_settles s l (posted.Reply r) is =
    let same : (let x : Reply = record { at = length s.entries; body = r.body } in x) ≡ r = λ i. record { at = sym is.at i; body = r.body } in
    subst (λ (x : Reply). Settles s (call.Look l) (posted.Reply x) s) same (Settles.replied r.body is.body)
look_settles s l posted.NoMemory is = Settles.memory
look_settles s l posted.Disk is = absurd is

-- the reply by a verdict, and the state after it
abbrev replied_by : DurableState → Change → Verdict → Body → Type 0
replied_by s c v body =
    Settles s (call.Change c) (posted.Reply (record { at = length (next_by v s.entries c); body = body })) (record s { entries = next_by v s.entries c; doubt = doubt_by v s.doubt })

by_verdict : (s : DurableState) (c : Change) (v : Verdict) (body : Body) → verdict_of s.plan s.entries c ≡ v → change_body s.plan s.entries c v ≡ body → replied_by s c v body
by_verdict s c v body e says = subst (λ (w : Verdict). replied_by s c w body) e (Settles.replied body (ap (change_body s.plan s.entries c) e ∙ says))

pub repeat_settles : (s : DurableState) (c : Change) (was : ℕ) → verdict_of s.plan s.entries c ≡ Repeat was
    → Settles s (call.Change c) (posted.Reply (record { at = length s.entries; body = Done (made_at s.plan s.entries was) (Some was) })) s
repeat_settles s c was e = by_verdict s c (Repeat was) (Done (made_at s.plan s.entries was) (Some was)) e refl

pub refusal_settles : (s : DurableState) (c : Change) (r : Refusal) → verdict_of s.plan s.entries c ≡ Refuse r
    → Settles s (call.Change c) (posted.Reply (record { at = length s.entries; body = Refused r })) s
refusal_settles s c r e = by_verdict s c (Refuse r) (Refused r) e refl

pub accepted_settles : (s : DurableState) (c : Change) (drawn : Drawn) → verdict_of s.plan s.entries c ≡ Accept drawn
    → Settles s (call.Change c) (posted.Reply (record { at = length (s.entries ++ entry_by c drawn ∷ []); body = Done (made_of s.plan (registers_of s.plan s.entries) (entry_by c drawn)) None }))
    (record s { entries = s.entries ++ entry_by c drawn ∷ []; doubt = None })
accepted_settles s c drawn e = by_verdict s c (Accept drawn) (Done (made_of s.plan (registers_of s.plan s.entries) (entry_by c drawn)) None) e refl

-- ---- by what the office says

pub repeat_answers : (s : DurableState) (c : Change) (was : ℕ) (p : Posted) → Repeat was ≡ verdict_of s.plan s.entries c
    → p ≡ posted.Reply (record { at = length s.entries; body = Done (made_at s.plan s.entries was) (Some was) }) → Settles s (call.Change c) p s
repeat_answers s c was p says is = subst (λ (x : Posted). Settles s (call.Change c) x s) (sym is) (repeat_settles s c was (sym says))

pub refusal_answers : (s : DurableState) (c : Change) (r : Refusal) (p : Posted) → Refuse r ≡ verdict_of s.plan s.entries c
    → p ≡ posted.Reply (record { at = length s.entries; body = Refused r }) → Settles s (call.Change c) p s
refusal_answers s c r p says is = subst (λ (x : Posted). Settles s (call.Change c) x s) (sym is) (refusal_settles s c r (sym says))

-- the entry stands on the disk and was added
pub accepted_answers : (s : DurableState) (c : Change) (drawn : Drawn) (n : ℕ) (made : Made) (after : DurableState) → verdict_of s.plan s.entries c ≡ Accept drawn
    → after.plan ≡ s.plan → after.entries ≡ s.entries ++ entry_by c drawn ∷ [] → after.doubt ≡ None → after.faults ≡ s.faults
    → n ≡ length after.entries → made ≡ made_of s.plan (registers_of s.plan s.entries) (entry_by c drawn)
    → Settles s (call.Change c) (posted.Reply (record { at = n; body = Done made None })) after
accepted_answers s c drawn n made after said plan entries doubt faults counted makes =
    let next : DurableState = record s { entries = s.entries ++ entry_by c drawn ∷ []; doubt = None } in
    let is : next ≡ after = λ i. record { plan = sym plan i; entries = sym entries i; doubt = sym doubt i; faults = sym faults i } in
    let at : length (s.entries ++ entry_by c drawn ∷ []) ≡ n = sym (counted ∙ ap length entries) in
    subst (Settles s (call.Change c) (posted.Reply (record { at = n; body = Done made None }))) is
    (subst (λ (m : Made). Settles s (call.Change c) (posted.Reply (record { at = n; body = Done m None })) next) (sym makes)
    (subst (λ (k : ℕ). Settles s (call.Change c) (posted.Reply (record { at = k; body = Done (made_of s.plan (registers_of s.plan s.entries) (entry_by c drawn)) None })) next) at (accepted_settles s c drawn said)))

-- the disk failed
pub failed_answers : (s : DurableState) (c : Change) (drawn : Drawn) (after : DurableState) → verdict_of s.plan s.entries c ≡ Accept drawn
    → after.plan ≡ s.plan → after.entries ≡ s.entries → Rose s.faults after.faults → IsDoubtAfter s.doubt (entry_by c drawn) after.doubt → Settles s (call.Change c) posted.Disk after
failed_answers s c drawn after said plan entries rose doubt = Settles.failed after (record {
  entry = entry_by c drawn;
  would = record { change = c; drawn = drawn; called = refl; accepts = said; entry = refl };
  plan = plan;
  entries = entries;
  rose = rose;
  doubt = doubt;
})

-- want of memory
pub memory_answers : (s : DurableState) (c : Call) (after : DurableState) → after ≡ s → Settles s c posted.NoMemory after
memory_answers s c after is = subst (Settles s c posted.NoMemory) (sym is) Settles.memory

-- ---- what an answer says of the state after it

pub settled_history : (s : DurableState) (c : Call) (given : Posted) (after : DurableState) → Settles s c given after
    → after.entries ≡ (if is_reply given then next_of s.plan s.entries c else s.entries)
settled_history s c given after (Settles.replied body says) = refl
settled_history s c given after Settles.memory = refl
settled_history s c given after (Settles.failed _ fails) = fails.entries

pub settled_cause : (s : DurableState) (c : Call) (given : Posted) (after : DurableState) → Settles s c given after → given ≡ posted.Disk → Rose s.faults after.faults
settled_cause s c given after (Settles.replied body says) is = cc
settled_cause s c given after Settles.memory is = cc
settled_cause s c given after (Settles.failed _ fails) is = fails.rose

pub settled_quiet : (s : DurableState) (c : Call) (given : Posted) (after : DurableState) → Settles s c given after → (given ≡ posted.Disk → ⊥) → after.faults ≡ s.faults
settled_quiet s c given after (Settles.replied body says) isnt = refl
settled_quiet s c given after Settles.memory isnt = refl
settled_quiet s c given after (Settles.failed _ fails) isnt = absurd (isnt refl)
