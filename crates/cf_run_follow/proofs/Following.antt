-- A run of `follow`.
use Rattle.std.proofs.Common.{◌≡◌, ◌≢◌, ◌⊎◌, ℕ, zero, suc, List, [], ◌∷◌, ◌++◌, length, take, Option, Some, None, refl, sym, ap, subst, ◌∙◌, inl, inr, append_assoc, append-nil, slice_get}
use Rattle.cf_base.proofs.Common.{Consumes, All-weaker}
use Rattle.cf_journal_book.specs.DurableState.{DurableBook}
use Rattle.cf_journal_book.specs.Openings.{OpensNone}
use Rattle.cf_journal_book.specs.Recovery.{entry_refusal}
use Rattle.cf_journal_book.specs.declared.refused.BookRefused.{BookRefused}
use Rattle.cf_journal_book.specs.declared.refused.BookRefused.TheVariants as refused
use Rattle.cf_journal_book.proofs.Recovering.{added_again}
use Rattle.cf_model.specs.Common.{Entry, Adds, IsLegalAfter}
use Rattle.cf_chart.specs.Common.{Plan}
use Rattle.cf_base.specs.Common.{Rose}
use Rattle.cf_follow.specs.Laws.{IsBehind}
use Rattle.cf_follow.specs.Steps.{IsReadCause}
use Rattle.cf_follow.specs.declared.end.FollowEnd.{FollowEnd}
use Rattle.cf_follow.specs.declared.end.FollowEnd.TheVariants as end
use Rattle.cf_journal.specs.Records.{HasRecord}
use Rattle.cf_journal_stream.specs.Streams.{HasFrame}
use Rattle.cf_journal_stream.proofs.Short.{framed}
use Rattle.cf_run_status.specs.declared.status.Status.{Status}
use Rattle.cf_run_status.specs.declared.status.Status.TheVariants as status
use Rattle.cf_run_follow.proofs.Admitted.{reached_since}
use Rattle.cf_run_follow.specs.Copies.{IsReached, book_office}
use Rattle.cf_run_status.specs.Devices.{Device}
use Rattle.cf_run_follow.specs.Follows.{Continues, Followed, FollowRunEnds, IsUnread, followed_text, status_of_end}
use Rattle.cf_run_status.specs.Printing.{Prints}
use Rattle.cf_run_status.specs.Refused.{status_of_refused}

-- the step adds each entry of a legal history behind those before it
legal_at : (plan : Plan) (seen later : List Entry) (n : ℕ) (e : Entry) → IsLegalAfter plan seen later → slice_get later n ≡ Some e → Adds plan (seen ++ take n later) e
legal_at plan seen [] n e legal is = absurd (cc is)
legal_at plan seen (x ∷ later) zero e legal is =
    let same : x ≡ e = cc is in
    subst (λ (h : List Entry). Adds plan h e) (sym (append-nil seen)) (subst (Adds plan seen) same legal.0)
legal_at plan seen (x ∷ later) (suc n) e legal is =
    subst (λ (h : List Entry). Adds plan h e) (append_assoc seen (x ∷ []) (take n later)) (legal_at plan (seen ++ x ∷ []) later n e legal.1 is)

module _ {D : Type 0} (device : Device D) where
  -- a book whose history a legal one continues refuses none of that at its place
  pub behind_of : (start : DurableBook D) (whole : List Entry) → start.doubt ≡ None → Continues start whole → IsBehind (book_office device) start whole
  behind_of start whole clear on = record { frames = All-weaker HasRecord HasFrame framed whole on.records; front = on.front; takes = takes }
    where
      takes : (f : DurableBook D) (e : Entry) → IsReached device start f None → f.entries ≡ take (length f.entries) whole → slice_get whole (length f.entries) ≡ Some e → entry_refusal f.plan f.entries e ≡ None
      takes f e reached front is =
          let since = reached_since device start f None clear reached in
          let adds : Adds start.plan (take (length f.entries) whole) e = legal_at start.plan [] whole (length f.entries) e on.legal is in
          added_again f.plan f.entries e (subst (λ (p : Plan). Adds p f.entries e) (sym since.plan) (subst (λ (h : List Entry). Adds start.plan h e) (sym front) adds))

  -- ---- the statuses of a run

  module _ (old new : D) (left left' held held' : Option (List ℕ)) where
    -- it stopped before the end of the stream
    pub follow_stopped : (how : FollowEnd) → how ≢ end.Done → Followed device old new left left' how → held' ≡ held → FollowRunEnds device old new left left' held held' (status_of_end how)
    follow_stopped end.Done other followed same = absurd (other refl)
    follow_stopped end.ReadFault other followed same = (followed, same)
    follow_stopped end.NoMemory other followed same = inr (inl (followed, same))
    follow_stopped (end.StreamFault offset) other followed same = (followed, same)
    follow_stopped (end.OtherChart at) other followed same = (followed, same)
    follow_stopped (end.Gap from count) other followed same = (followed, same)
    follow_stopped (end.Forked place) other followed same = (followed, same)
    follow_stopped (end.EntryRefused place n) other followed same = (followed, same)
    follow_stopped end.DiskFault other followed same = inr (followed, same)

    -- it was followed to its end
    pub follow_printed : (s : Status) (followed : Followed device old new left left' end.Done) → Prints (followed_text (length followed.last.entries)) held held' s → FollowRunEnds device old new left left' held held' s
    follow_printed status.Ok followed prints = record { followed = followed; prints = prints }
    follow_printed status.WriteFault followed prints = record { followed = followed; prints = prints }
    follow_printed status.NoMemory followed prints = inr (inr (record { followed = followed; prints = prints }))
    follow_printed _ followed prints = absurd prints

    -- no journal was opened
    pub follow_refused : (why : BookRefused) → OpensNone device.tells device.content device.is_image device.moment device.was_image device.faults old new why → Consumes left left' [] → held' ≡ held
        → FollowRunEnds device old new left left' held held' (status_of_refused why)
    follow_refused why none input out = by_cause why none
      where
        unread : IsUnread device old new left left' held held'
        unread = record { unwritten = record { content = none.reads; any_moment = none.any_moment }; input = input; out = out }

        by_cause : (w : BookRefused) → OpensNone device.tells device.content device.is_image device.moment device.was_image device.faults old new w → FollowRunEnds device old new left left' held held' (status_of_refused w)
        by_cause refused.Disk n = inl unread
        by_cause refused.NoMemory n = inl unread
        by_cause (refused.NotFounded len byte) n = record { unread = unread; refuses = n.refuses; quiet = n.quiet (λ e. cc) }
        by_cause (refused.Damaged offset refusal) n = record { unread = unread; refuses = n.refuses; quiet = n.quiet (λ e. cc) }

-- ---- how a run's status tells how following ended

is_done : (how : FollowEnd) → (how ≡ end.Done) ⊎ (how ≢ end.Done)
is_done end.Done = inl refl
is_done _ = inr (λ e. cc)

read_end : (how : FollowEnd) → status_of_end how ≡ status.ReadFault → how ≡ end.ReadFault
read_end end.ReadFault e = refl
read_end _ e = cc

disk_end : (how : FollowEnd) → status_of_end how ≡ status.DiskFault → how ≡ end.DiskFault
disk_end end.DiskFault e = refl
disk_end _ e = cc

-- the count of the input's faults
pub read_rose : (how : FollowEnd) (before now : ℕ) → how ≡ end.ReadFault → IsReadCause before now how → Rose before now
read_rose how before now is cause = subst (IsReadCause before now) is cause

pub read_quiet : (how : FollowEnd) (before now : ℕ) → how ≢ end.ReadFault → IsReadCause before now how → now ≡ before
read_quiet end.ReadFault before now other cause = absurd (other refl)
read_quiet end.Done before now other cause = cause
read_quiet end.NoMemory before now other cause = cause
read_quiet (end.StreamFault offset) before now other cause = cause
read_quiet (end.OtherChart at) before now other cause = cause
read_quiet (end.Gap from count) before now other cause = cause
read_quiet (end.Forked place) before now other cause = cause
read_quiet (end.EntryRefused place n) before now other cause = cause
read_quiet end.DiskFault before now other cause = cause

module _ (text : List ℕ) (held held' : Option (List ℕ)) (how : FollowEnd) (s : Status) (done : how ≡ end.Done → Prints text held held' s) (stopped : how ≢ end.Done → (s ≡ status_of_end how) × (held' ≡ held)) where
  pub said_read : s ≡ status.ReadFault → how ≡ end.ReadFault
  said_read is = elim (is_done how) [
    | inl d ↦ absurd (subst (Prints text held held') is (done d))
    | inr other ↦ read_end how (sym (stopped other).0 ∙ is)
  ]

  pub said_disk : s ≡ status.DiskFault → how ≡ end.DiskFault
  said_disk is = elim (is_done how) [
    | inl d ↦ absurd (subst (Prints text held held') is (done d))
    | inr other ↦ disk_end how (sym (stopped other).0 ∙ is)
  ]

  pub read_said : how ≡ end.ReadFault → s ≡ status.ReadFault
  read_said is = (stopped (λ d. (let same : end.ReadFault ≡ end.Done = sym is ∙ d in cc))).0 ∙ ap status_of_end is

  pub disk_said : how ≡ end.DiskFault → s ≡ status.DiskFault
  disk_said is = (stopped (λ d. (let same : end.DiskFault ≡ end.Done = sym is ∙ d in cc))).0 ∙ ap status_of_end is

-- what a run says
module _ {D : Type 0} (device : Device D) (old new : D) (left left' held held' : Option (List ℕ)) (count : ℕ) (how : FollowEnd) (s : Status) where
  pub follow_ends : (followed : Followed device old new left left' how) → count ≡ length followed.last.entries → (how ≡ end.Done → Prints (followed_text count) held held' s) → (how ≢ end.Done → (s ≡ status_of_end how) × (held' ≡ held))
      → FollowRunEnds device old new left left' held held' s
  follow_ends followed counts done stopped = elim (is_done how) [
    | inl d ↦
        let prints : Prints (followed_text (length followed.last.entries)) held held' s = subst (λ (n : ℕ). Prints (followed_text n) held held' s) counts (done d) in
        (by_done how d followed prints)
    | inr other ↦
        let both = stopped other in
        subst (FollowRunEnds device old new left left' held held') (sym both.0) (follow_stopped device old new left left' held held' how other followed both.1)
  ]
    where
      by_done : (h : FollowEnd) → h ≡ end.Done → (f : Followed device old new left left' h) → Prints (followed_text (length f.last.entries)) held held' s → FollowRunEnds device old new left left' held held' s
      by_done end.Done is f prints = follow_printed device old new left left' held held' s f prints
      by_done _ is f prints = cc
