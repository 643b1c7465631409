-- What is said of a call, and what its pass is told.
use Rattle.std.proofs.Common.{◌≡◌, ◌⊎◌, ⊎_elim, ℕ, ◌+◌, ◌≤◌, List, [], ◌∷◌, ◌++◌, Option, None, length, refl, sym, ap, subst, ◌∙◌, arith, inl, inr, length-append, min, ◌^◌, ◌-◌}
use mathlib.Core.List.{IsPrefix}
use Rattle.cf_model.specs.Common.{Call, Entry, Posted, Reply, Verdict, Accept, Repeat, Refuse, IsLegal, body_of, next_of, verdict_of}
use Rattle.cf_calls.specs.declared.call.Call.TheVariants as call
use Rattle.cf_calls.specs.declared.reply.Posted.TheVariants as posted
use Rattle.cf_chart.specs.Common.{Plan}
use Rattle.cf_journal_book.specs.DurableState.{DurableState}
use Rattle.cf_journal_book.specs.Settling.{Settles, doubt_by, next_doubt}
use Rattle.cf_hall_names.specs.Closing.{RoseBy}
use Rattle.cf_hall_names.specs.Lists.{entries_of}
use Rattle.cf_hall_names.specs.Telling.{IsAccepted, Reads, Tells}
use Rattle.cf_hall_names.proofs.Entries.{entries_length}
use Rattle.cf_turns.specs.Lists.{TaggedCall, TaggedEntry, longer}
use Rattle.cf_turns.specs.States.{PassState}
use Rattle.cf_turns.proofs.Beginnings.{IsPrefix-shorter}
use Rattle.cf_hall.specs.Passes.{Sights, failed_after, faults_by}
use Rattle.cf_hall.specs.Recordings.{HasAsked, HasNoted}
use Rattle.cf_hall.proofs.Longer.{longer_second}

-- what a call's answer says of the history, and of the next one
abbrev pub Said : Plan → List Entry → Call → Posted → List Entry → Type 0
Said plan h c (posted.Reply r) after = (body_of plan h c ≡ r.body) × ((after ≡ next_of plan h c) × (r.at ≡ length after))
Said plan h c posted.NoMemory after = Unit {0}
Said plan h c posted.Disk after = IsAccepted plan h c

pub said : (s : DurableState) (c : Call) (given : Posted) (after : DurableState) → Settles s c given after → Said s.plan s.entries c given after.entries
said s c given after (Settles.replied body is) = (is, (refl, refl))
said s c given after Settles.memory = tt
said s c given after (Settles.failed _ fails) = record { change = fails.would.change; drawn = fails.would.drawn; called = fails.would.called; accepts = fails.would.accepts }

pub said_at : (plan : Plan) (h h' : List Entry) (c : Call) (given : Posted) (s after : DurableState) → s.plan ≡ plan → s.entries ≡ h → after.entries ≡ h' → Settles s c given after → Said plan h c given h'
said_at plan h h' c given s after p e e' settles =
    subst (λ (q : Plan). Said q h c given h') p (subst (λ (x : List Entry). Said s.plan x c given h') e (subst (λ (x : List Entry). Said s.plan s.entries c given x) e' (said s c given after settles)))

-- the count of fault replies has not left the disk's count behind
pub risen_by : (s : DurableState) (c : Call) (given : Posted) (after : DurableState) (n risen : ℕ) → Settles s c given after → RoseBy n risen s.faults → RoseBy (n + faults_by given) risen after.faults
risen_by s c given after n risen (Settles.replied body is) rose = omega (arith, rose)
risen_by s c given after n risen Settles.memory rose = omega (arith, rose)
risen_by s c given after n risen (Settles.failed _ fails) rose = omega (arith, rose, fails.rose)

-- each fault reply is noted
pub noted_by : (failed : List TaggedCall) (c : Call) (k : ℕ) (given : Posted) (n : ℕ) → n ≡ length failed → n + faults_by given ≡ length (failed_after failed c k given)
noted_by failed c k (posted.Reply r) n is = omega (arith, is)
noted_by failed c k posted.NoMemory n is = omega (arith, is)
noted_by failed c k posted.Disk n is = omega (arith, is, length-append failed ((c, k) ∷ []))

-- and where there was no fault reply it stands
pub quiet_by : (s : DurableState) (c : Call) (given : Posted) (after : DurableState) (n risen : ℕ) → Settles s c given after → (n ≡ 0 → s.faults ≡ risen) → n + faults_by given ≡ 0 → after.faults ≡ risen
quiet_by s c given after n risen (Settles.replied body is) quiet none = quiet (omega (arith, none))
quiet_by s c given after n risen Settles.memory quiet none = quiet (omega (arith, none))
quiet_by s c given after n risen (Settles.failed _ fails) quiet none = absurd (omega (arith, none))

doubt_stays : (v : Verdict) (d : Option Entry) → (doubt_by v d ≡ d) ⊎ (doubt_by v d ≡ None)
doubt_stays (Accept drawn) d = inr refl
doubt_stays (Repeat was) d = inl refl
doubt_stays (Refuse r) d = inl refl

next_stays : (s : DurableState) (c : Call) → (next_doubt s c ≡ s.doubt) ⊎ (next_doubt s c ≡ None)
next_stays s (call.Change c) = doubt_stays (verdict_of s.plan s.entries c) s.doubt
next_stays s (call.Look l) = inl refl

-- nor came anything in doubt
pub clear_by : (s : DurableState) (c : Call) (given : Posted) (after : DurableState) (n : ℕ) (first : Option Entry) → Settles s c given after → (n ≡ 0 → (s.doubt ≡ first) ⊎ (s.doubt ≡ None)) → n + faults_by given ≡ 0
    → (after.doubt ≡ first) ⊎ (after.doubt ≡ None)
clear_by s c given after n first (Settles.replied body is) clear none =
    elim (next_stays s c) [
      | inl same ↦ ⊎_elim (λ e. inl (same ∙ e)) (λ e. inr (same ∙ e)) (clear (omega (arith, none)))
      | inr gone ↦ inr gone
    ]
clear_by s c given after n first Settles.memory clear none = clear (omega (arith, none))
clear_by s c given after n first (Settles.failed _ fails) clear none = absurd (omega (arith, none))

-- ---- the pass

module _ (plan : Plan) (old now new : PassState) (list : List TaggedEntry) (c : Call) (asked : HasAsked old now list) where
  seen_now : now.seen ≡ old.seen
  seen_now = ap (λ (p : PassState). p.seen) asked.now_is

  short : length old.seen ≤ length list
  short = omega (arith, asked.from, asked.to)

  reads_of : (q : PassState) → q.table ≡ now.table → q.number ≡ now.number → q.reads ≡ now.reads → IsPrefix now.seen q.seen → Reads old q
  reads_of q t n r pre = record {
    table = t ∙ ap (λ (p : PassState). p.table) asked.now_is;
    number = n ∙ ap (λ (p : PassState). p.number) asked.now_is;
    reads = r ∙ ap (λ (p : PassState). p.reads) asked.now_is;
    seen = subst (λ (xs : List TaggedEntry). IsPrefix xs q.seen) seen_now pre;
  }

  -- it has seen the whole list
  learned : new.seen ≡ longer now.seen list → new.seen ≡ list
  learned is = is ∙ ap (λ (xs : List TaggedEntry). longer xs list) seen_now ∙ longer_second old.seen list short

  pub told_kept : (given : Posted) → Said plan (entries_of list) c given (entries_of list) → IsLegal plan (entries_of list) → Sights now list c given new → IsPrefix now.seen new.seen → Tells plan old new c given
  told_kept (posted.Reply r) s legal is pre =
      let seen = learned (ap (λ (p : PassState). p.seen) is) in
      let entries : entries_of list ≡ entries_of new.seen = ap entries_of (sym seen) in
      let at : r.at ≡ length new.seen = s.1.1 ∙ entries_length list ∙ ap length (sym seen) in
      let last : new.last_read ≡ asked.read = ap (λ (p : PassState). p.last_read) is ∙ ap (λ (p : PassState). p.last_read) asked.now_is in (
        reads_of new (ap (λ (p : PassState). p.table) is) (ap (λ (p : PassState). p.number) is) (ap (λ (p : PassState). p.reads) is) pre,
        (
          record {
            at = at;
            fresh = omega (arith, last, asked.to, at, ap length seen);
            faults = ap (λ (p : PassState). p.faults) is ∙ ap (λ (p : PassState). p.faults) asked.now_is;
            failed = ap (λ (p : PassState). p.failed) is ∙ ap (λ (p : PassState). p.failed) asked.now_is;
          },
          inr (record {
            body = subst (λ (h : List Entry). body_of plan h c ≡ r.body) entries s.0;
            next = subst (λ (h : List Entry). next_of plan h c ≡ h) entries (sym s.1.0);
            places = ap (λ (p : PassState). p.places) is ∙ ap (λ (p : PassState). p.places) asked.now_is;
          }),
        ),
      )
  told_kept posted.NoMemory s legal is pre = (
    reads_of new (ap (λ (p : PassState). p.table) is) (ap (λ (p : PassState). p.number) is) (ap (λ (p : PassState). p.reads) is) pre,
    (
      record {
        seen = ap (λ (p : PassState). p.seen) is ∙ seen_now;
        places = ap (λ (p : PassState). p.places) is ∙ ap (λ (p : PassState). p.places) asked.now_is;
        failed = ap (λ (p : PassState). p.failed) is ∙ ap (λ (p : PassState). p.failed) asked.now_is;
      },
      ap (λ (p : PassState). p.faults) is ∙ ap (λ (p : PassState). p.faults) asked.now_is,
    ),
  )
  told_kept posted.Disk s legal is pre =
      let entries : entries_of list ≡ entries_of new.seen = ap entries_of (sym (learned (ap (λ (p : PassState). p.seen) is))) in (
        reads_of new (ap (λ (p : PassState). p.table) is) (ap (λ (p : PassState). p.number) is) (ap (λ (p : PassState). p.reads) is) pre,
        record {
          legal = subst (IsLegal plan) entries legal;
          accepted = subst (λ (h : List Entry). IsAccepted plan h c) entries s;
          places = ap (λ (p : PassState). p.places) is ∙ ap (λ (p : PassState). p.places) asked.now_is;
          faults = ap (λ (p : PassState). p.faults) is ∙ ap (λ (n : ℕ). min (n + 1) (2 ^ 64 - 1)) (ap (λ (p : PassState). p.faults) asked.now_is);
          failed = ap (λ (p : PassState). p.failed) is ∙ ap (λ (cs : List Call). cs ++ c ∷ []) (ap (λ (p : PassState). p.failed) asked.now_is);
        },
      )

  -- an entry was recorded for the pass
  pub told_added : (list' : List TaggedEntry) (e : Entry) (r : Reply) → list' ≡ list ++ (e, now.number) ∷ [] → Said plan (entries_of list) c (posted.Reply r) (entries_of list') → HasNoted now list' new →
      Tells plan old new c (posted.Reply r)
  told_added list' e r grows s noted =
      let is = noted.pass in
      let same : now.number ≡ old.number = ap (λ (p : PassState). p.number) asked.now_is in
      let own : list' ≡ list ++ (e, old.number) ∷ [] = grows ∙ ap (λ (n : ℕ). list ++ (e, n) ∷ []) same in
      let longer_by : length list' ≡ length list + 1 = ap length grows ∙ length-append list ((e, now.number) ∷ []) in
      let seen : new.seen ≡ list' =
      ap (λ (p : PassState). p.seen) is ∙ ap (λ (xs : List TaggedEntry). longer xs list') seen_now ∙ longer_second old.seen list' (omega (arith, asked.from, asked.to, longer_by)) in
      let at : r.at ≡ length list' = s.1.1 ∙ entries_length list' in
      let last : new.last_read ≡ asked.read = ap (λ (p : PassState). p.last_read) is ∙ ap (λ (p : PassState). p.last_read) asked.now_is in
      let reads = reads_of new (ap (λ (p : PassState). p.table) is) (ap (λ (p : PassState). p.number) is) (ap (λ (p : PassState). p.reads) is) noted.seen in (
        reads,
        (
          record {
            at = at ∙ ap length (sym seen);
            fresh = omega (arith, last, asked.to, at, longer_by);
            faults = ap (λ (p : PassState). p.faults) is ∙ ap (λ (p : PassState). p.faults) asked.now_is;
            failed = ap (λ (p : PassState). p.failed) is ∙ ap (λ (p : PassState). p.failed) asked.now_is;
          },
          inl (record {
            before = list;
            entry = e;
            list = seen ∙ own;
            seen = IsPrefix-shorter old.seen list new.seen reads.seen (subst (IsPrefix list) (sym (seen ∙ own)) ((e, old.number) ∷ [], refl)) short;
            body = s.0;
            next = sym s.1.0 ∙ ap entries_of (sym seen);
            places = ap (λ (p : PassState). p.places) is ∙ (λ i. ap (λ (p : PassState). p.places) asked.now_is i ++ sym at i ∷ []);
          }),
        ),
      )
