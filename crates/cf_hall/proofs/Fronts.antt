-- What a crash leaves while a hall is open goes on recovering to fronts of its history.
use Rattle.std.proofs.Common.{◌≡◌, ◌⊎◌, ℕ, ◌≤◌, List, [], ◌∷◌, ◌++◌, Option, Some, None, IfSome, length, take, drop, refl, sym, ap, subst, ◌∙◌, inl, inr, ⊎_elim, append_assoc, length-append, arith, Contains}
use Rattle.cf_base.proofs.Common.{take-append-drop, length-take, Contains-append_left, Contains-push, take-append_seam, take-length}
use Rattle.cf_journal_book.specs.Books.{IsInHand, RecoversNear}
use Rattle.cf_journal_book.specs.DurableState.{DurableState}
use Rattle.cf_journal_book.specs.Settling.{Settles, WouldAdd, doubt_by, next_doubt}
use Rattle.cf_model.specs.Common.{Call, Change, Entry, Posted, Reply, Verdict, Accept, Repeat, Refuse, next_by, next_of, verdict_of}
use Rattle.cf_calls.specs.declared.call.Call.TheVariants as call
use Rattle.cf_calls.specs.declared.reply.Posted.TheVariants as posted
use Rattle.cf_chart.specs.Common.{Plan}
use Rattle.cf_disk.specs.Moments.{AtEachMoment}
use Rattle.cf_hall_names.specs.Lists.{calls_in}
use Rattle.cf_turns.specs.Lists.{TaggedCall}
use Rattle.cf_hall.specs.Fronts.{IsKeptSince, IsUnacknowledged, KeptSince, RecoversToFrontAnd}
use Rattle.cf_hall.specs.Passes.{failed_after}

-- ---- fronts

same_front : (h more : List Entry) (n : ℕ) → take (length (take n h)) (h ++ more) ≡ take n h
same_front h more n =
    let front : List Entry = take n h in
    ap (λ (l : List Entry). take (length front) (l ++ more)) (sym (take-append-drop n h)) ∙ ap (take (length front)) (append_assoc front (drop n h) more) ∙ take-append_seam front (drop n h ++ more)

-- the kinds of entries of one may be wider
near_wider : (plan : Plan) (h : List Entry) (P Q : Entry → Type 0) (image : List ℕ) → ((e : Entry) → P e → Q e) → RecoversNear plan h P image → RecoversNear plan h Q image
near_wider plan h P Q image wider (inl without) = inl without
near_wider plan h P Q image wider (inr with) = inr (with.0, wider with.0 with.1, with.2)

pub front_wider : (plan : Plan) (least : ℕ) (h : List Entry) (P Q : List Entry → Entry → Type 0) (image : List ℕ) → ((l : List Entry) (e : Entry) → P l e → Q l e) → RecoversToFrontAnd plan least P h image
    → RecoversToFrontAnd plan least Q h image
front_wider plan least h P Q image wider f = (f.0, f.1, near_wider plan (take f.0 h) (P (take f.0 h)) (Q (take f.0 h)) image (wider (take f.0 h)) f.2)

-- a front of a history is one of a longer history
pub longer_front : (plan : Plan) (least : ℕ) (h more : List Entry) (P : List Entry → Entry → Type 0) (image : List ℕ) → least ≤ length h → RecoversToFrontAnd plan least P h image
    → RecoversToFrontAnd plan least P (h ++ more) image
longer_front plan least h more P image long front =
    (length (take front.0 h), omega (arith, long, front.1, length-take front.0 h), subst (λ (l : List Entry). RecoversNear plan l (P l) image) (sym (same_front h more front.0)) front.2)

-- a history is a front of itself
pub whole_front : (plan : Plan) (least : ℕ) (h : List Entry) (P : List Entry → Entry → Type 0) (image : List ℕ) → least ≤ length h → RecoversNear plan h (P h) image → RecoversToFrontAnd plan least P h image
whole_front plan least h P image long near = (length h, long, subst (λ (l : List Entry). RecoversNear plan l (P l) image) (sym (take-length h)) near)

-- ---- one call

pub if_some_wider : (d : Option Entry) (P Q : Entry → Type 0) → ((e : Entry) → P e → Q e) → IfSome d P → IfSome d Q
if_some_wider None P Q wider p = tt
if_some_wider (Some e) P Q wider p = wider e p

pub would_next : (s : DurableState) (c : Call) (e : Entry) → WouldAdd s c e → next_of s.plan s.entries c ≡ s.entries ++ e ∷ []
would_next s c e w =
    ap (next_of s.plan s.entries) w.called ∙ ap (λ (v : Verdict). next_by v s.entries w.change) w.accepts ∙ ap (λ (x : Entry). s.entries ++ x ∷ []) (sym w.entry)

module _ (P Q : List Entry → Entry → Type 0) (wider : (l : List Entry) (e : Entry) → P l e → Q l e) (s : DurableState) (c : Call) where
  -- what is in doubt after it
  doubt_by_verdict : (v : Verdict) (h : List Entry) (d : Option Entry) (change : Change) → IfSome d (P h) → IfSome (doubt_by v d) (Q (next_by v h change))
  doubt_by_verdict (Accept drawn) h d change p = tt
  doubt_by_verdict (Repeat was) h d change p = if_some_wider d (P h) (Q h) (wider h) p
  doubt_by_verdict (Refuse r) h d change p = if_some_wider d (P h) (Q h) (wider h) p

  doubt_next : (k : Call) → IfSome s.doubt (P s.entries) → IfSome (next_doubt s k) (Q (next_of s.plan s.entries k))
  doubt_next (call.Change change) p = doubt_by_verdict (verdict_of s.plan s.entries change) s.entries s.doubt change p
  doubt_next (call.Look l) p = if_some_wider s.doubt (P s.entries) (Q s.entries) (wider s.entries) p

  pub doubt_on : (given : Posted) (after : DurableState) → Settles s c given after → (given ≡ posted.Disk → (e : Entry) → WouldAdd s c e → Q s.entries e) → IfSome s.doubt (P s.entries) → IfSome after.doubt (Q after.entries)
  doubt_on given after (Settles.replied body is) fails p = doubt_next c p
  doubt_on given after Settles.memory fails p = if_some_wider s.doubt (P s.entries) (Q s.entries) (wider s.entries) p
  doubt_on given after (Settles.failed _ f) fails p =
      subst (λ (h : List Entry). IfSome after.doubt (Q h)) (sym f.entries)
      (⊎_elim
      (λ (same : after.doubt ≡ s.doubt). subst (λ (d : Option Entry). IfSome d (Q s.entries)) (sym same) (if_some_wider s.doubt (P s.entries) (Q s.entries) (wider s.entries) p))
      (λ (other : (after.doubt ≡ None) ⊎ (after.doubt ≡ Some f.entry)).
      ⊎_elim
      (λ (none : after.doubt ≡ None). subst (λ (d : Option Entry). IfSome d (Q s.entries)) (sym none) tt)
      (λ (one : after.doubt ≡ Some f.entry). subst (λ (d : Option Entry). IfSome d (Q s.entries)) (sym one) (fails refl f.entry f.would))
      other)
      f.doubt)

  -- what a crash leaves at a moment of the call
  in_doubt_is : (d : Option Entry) (h : List Entry) (e : Entry) → d ≡ Some e → IfSome d (P h) → Q h e
  in_doubt_is None h e is p = absurd (none_some is)
    where
      none_some : None ≡ Some e → ⊥
      none_some x = cc
  in_doubt_is (Some x) h e is p = subst (Q h) (same is) (wider h x p)
    where
      same : Some x ≡ Some e → x ≡ e
      same y = cc

  kept_front : (least : ℕ) (image : List ℕ) (rest : List Entry) → least ≤ length s.entries → RecoversNear s.plan s.entries (Q s.entries) image → RecoversToFrontAnd s.plan least Q (s.entries ++ rest) image
  kept_front least image rest long near = longer_front s.plan least s.entries rest Q image long (whole_front s.plan least s.entries Q image long near)

  near_on : (least : ℕ) (given : Posted) (after : DurableState) (rest : List Entry) → least ≤ length s.entries → after.entries ≡ s.entries ++ rest → Settles s c given after → (given ≡ posted.NoMemory → ⊥)
      → (given ≡ posted.Disk → (e : Entry) → WouldAdd s c e → Q s.entries e) → IfSome s.doubt (P s.entries) → (image : List ℕ) → RecoversNear s.plan s.entries (IsInHand s c) image
      → RecoversToFrontAnd s.plan least Q after.entries image
  near_on least given after rest long grows settles some fails p image (inl without) =
      subst (λ (h : List Entry). RecoversToFrontAnd s.plan least Q h image) (sym grows) (kept_front least image rest long (inl without))
  near_on least given after rest long grows settles some fails p image (inr with) =
      ⊎_elim
      (λ (was : s.doubt ≡ Some with.0). here (in_doubt_is s.doubt s.entries with.0 was p))
      (λ (would : WouldAdd s c with.0). by_settled given after settles grows some fails would)
      with.1
    where
      here : Q s.entries with.0 → RecoversToFrontAnd s.plan least Q after.entries image
      here q = subst (λ (h : List Entry). RecoversToFrontAnd s.plan least Q h image) (sym grows) (kept_front least image rest long (inr (with.0, q, with.2)))

      by_settled : (given : Posted) (after : DurableState) → Settles s c given after → after.entries ≡ s.entries ++ rest → (given ≡ posted.NoMemory → ⊥) → (given ≡ posted.Disk → (e : Entry) → WouldAdd s c e → Q s.entries e)
          → WouldAdd s c with.0 → RecoversToFrontAnd s.plan least Q after.entries image
      by_settled given after (Settles.replied body is) grows some fails would =
          let next = would_next s c with.0 would in
          let longer : least ≤ length (s.entries ++ with.0 ∷ []) = omega (arith, long, length-append s.entries (with.0 ∷ [])) in
          subst (λ (h : List Entry). RecoversToFrontAnd s.plan least Q h image) (sym next) (whole_front s.plan least (s.entries ++ with.0 ∷ []) Q image longer (inl with.2))
      by_settled given after Settles.memory grows some fails would = absurd (some refl)
      by_settled given after (Settles.failed _ f) grows some fails would =
          subst (λ (h : List Entry). RecoversToFrontAnd s.plan least Q h image) (sym grows) (kept_front least image rest long (inr (with.0, fails refl with.0 would, with.2)))

memory_stays : (s : DurableState) (c : Call) (given : Posted) (after : DurableState) → Settles s c given after → given ≡ posted.NoMemory → after.entries ≡ s.entries
memory_stays s c given after (Settles.replied body e) is = absurd (replied is)
  where
    replied : {r : Reply} → posted.Reply r ≡ posted.NoMemory → ⊥
    replied bad = cc
memory_stays s c given after Settles.memory is = refl
memory_stays s c given after (Settles.failed _ f) is = f.entries

-- ---- entries that no reply acknowledged

-- of more calls
pub unacknowledged_wider : (plan : Plan) (in_doubt : Option Entry) (calls more : List Call) → ((c : Call) → Contains calls c → Contains more c) → (h : List Entry) (e : Entry)
    → IsUnacknowledged plan in_doubt calls h e → IsUnacknowledged plan in_doubt more h e
unacknowledged_wider plan in_doubt calls more within h e (inl was) = inl was
unacknowledged_wider plan in_doubt calls more within h e (inr of) = inr (record { call = of.call; stands = within of.call of.stands; adds = of.adds })

calls_push : (failed : List TaggedCall) (c : Call) (n : ℕ) → calls_in (failed ++ (c, n) ∷ []) ≡ calls_in failed ++ c ∷ []
calls_push [] c n = refl
calls_push (x ∷ xs) c n = ap (λ (l : List Call). x.0 ∷ l) (calls_push xs c n)

-- none is lost by an answer
pub calls_after : (failed : List TaggedCall) (c : Call) (n : ℕ) (given : Posted) (d : Call) → Contains (calls_in failed) d → Contains (calls_in (failed_after failed c n given)) d
calls_after failed c n (posted.Reply r) d stands = stands
calls_after failed c n posted.NoMemory d stands = stands
calls_after failed c n posted.Disk d stands = subst (λ (l : List Call). Contains l d) (sym (calls_push failed c n)) (Contains-append_left (calls_in failed) (c ∷ []) d stands)

-- a call that was answered by a fault of the disk is one of them then
pub fails_after : (in_doubt : Option Entry) (s : DurableState) (failed : List TaggedCall) (c : Call) (n : ℕ) (given : Posted) → given ≡ posted.Disk → (e : Entry) → WouldAdd s c e
    → IsUnacknowledged s.plan in_doubt (calls_in (failed_after failed c n given)) s.entries e
fails_after in_doubt s failed c n given is e would = inr (record {
  call = c;
  stands = subst (λ (g : Posted). Contains (calls_in (failed_after failed c n g)) c) (sym is) (subst (λ (l : List Call). Contains l c) (sym (calls_push failed c n)) (Contains-push (calls_in failed) c));
  adds = would_next s c e would;
})

-- ---- since the hall was opened

module _ {D : Type 0} (moment : D → ℕ) (was_image : D → ℕ → List ℕ → Type 0) (plan : Plan) (least : ℕ) (in_doubt : Option Entry) where
  -- of more calls
  pub since_wider : (calls more : List Call) (h : List Entry) (begun : ℕ) (disk : D) → ((c : Call) → Contains calls c → Contains more c) → KeptSince moment was_image plan least in_doubt calls h begun disk
      → KeptSince moment was_image plan least in_doubt more h begun disk
  since_wider calls more h begun disk within kept = record {
    later = kept.later;
    images = λ image was. front_wider plan least h (IsUnacknowledged plan in_doubt calls) (IsUnacknowledged plan in_doubt more) image (unacknowledged_wider plan in_doubt calls more within) (kept.images image was);
  }

  is_since_wider : (calls more : List Call) (h : List Entry) (begun : ℕ) (disk : D) → ((c : Call) → Contains calls c → Contains more c) → IsKeptSince moment was_image plan least in_doubt calls h begun disk
      → IsKeptSince moment was_image plan least in_doubt more h begun disk
  is_since_wider calls more h begun disk within (inl here) = inl here
  is_since_wider calls more h begun disk within (inr kept) = inr (since_wider calls more h begun disk within kept)

  -- after one call more, which kept the history or added to it
  kept_on : (calls : List Call) (h new rest : List Entry) (begun : ℕ) (old disk : D) → least ≤ length h → new ≡ h ++ rest → IsKeptSince moment was_image plan least in_doubt calls h begun old
      → AtEachMoment moment was_image old disk (RecoversToFrontAnd plan least (IsUnacknowledged plan in_doubt calls) new) → KeptSince moment was_image plan least in_doubt calls new begun disk
  kept_on calls h new rest begun old disk long grows (inl here) run = record {
    later = omega (arith, here, run.later);
    images = λ image was. run.images image (subst (λ (t : ℕ). was_image disk t image) (sym here) was);
  }
  kept_on calls h new rest begun old disk long grows (inr kept) run = record {
    later = omega (arith, kept.later, run.later);
    images = λ image was.
        ⊎_elim
        (λ (before : was_image old begun image). subst (λ (l : List Entry). RecoversToFrontAnd plan least (IsUnacknowledged plan in_doubt calls) l image) (sym grows)
        (longer_front plan least h rest (IsUnacknowledged plan in_doubt calls) image long (kept.images image before)))
        (λ near. near)
        (run.since begun image kept.later was);
  }

  at_each : (old disk : D) (P Q : List ℕ → Type 0) → ((image : List ℕ) → P image → Q image) → AtEachMoment moment was_image old disk P → AtEachMoment moment was_image old disk Q
  at_each old disk P Q wider run = record {
    later = run.later;
    images = λ image was. wider image (run.images image was);
    since = λ t image le was. ⊎_elim (λ before. inl before) (λ near. inr (wider image near)) (run.since t image le was);
  }

  -- at the end
  pub kept_end : (is_image : D → List ℕ → Type 0) (calls : List Call) (h : List Entry) (begun : ℕ) (disk : D) → least ≤ length h → ((image : List ℕ) → was_image disk (moment disk) image → is_image disk image)
      → ((image : List ℕ) → is_image disk image → RecoversNear plan h (IsUnacknowledged plan in_doubt calls h) image) → IsKeptSince moment was_image plan least in_doubt calls h begun disk
      → KeptSince moment was_image plan least in_doubt calls h begun disk
  kept_end is_image calls h begun disk long only_now near (inl here) = record {
    later = omega (arith, here);
    images = λ image was. whole_front plan least h (IsUnacknowledged plan in_doubt calls) image long (near image (only_now image (subst (λ (t : ℕ). was_image disk t image) (sym here) was)));
  }
  kept_end is_image calls h begun disk long only_now near (inr kept) = kept

-- what is in doubt is one of such entries
pub near_doubt : (plan : Plan) (h : List Entry) (d : Option Entry) (Q : Entry → Type 0) (image : List ℕ) → IfSome d Q → RecoversNear plan h (λ e. d ≡ Some e) image → RecoversNear plan h Q image
near_doubt plan h d Q image p (inl without) = inl without
near_doubt plan h d Q image p (inr with) = inr (with.0, is_some d with.1 p, with.2)
  where
    is_some : (o : Option Entry) → o ≡ Some with.0 → IfSome o Q → Q with.0
    is_some None is q = absurd (let bad : (let x : Option Entry = None in x) ≡ Some with.0 = is in cc)
    is_some (Some x) is q = subst Q (same is) q
      where
        same : Some x ≡ Some with.0 → x ≡ with.0
        same y = cc

-- what is in doubt when the hall is opened
pub opening_doubt : (plan : Plan) (in_doubt : Option Entry) (calls : List Call) (h : List Entry) (d : Option Entry) → d ≡ in_doubt → IfSome d (IsUnacknowledged plan in_doubt calls h)
opening_doubt plan in_doubt calls h None is = tt
opening_doubt plan in_doubt calls h (Some e) is = inl (sym is)

-- one call at a hall's book: what was so since the opening stays so
module _ {D : Type 0} (moment : D → ℕ) (was_image : D → ℕ → List ℕ → Type 0) (least : ℕ) (in_doubt : Option Entry) (s : DurableState) (c : Call) (given : Posted) (after : DurableState) (failed : List TaggedCall) (n : ℕ)
    (settles : Settles s c given after) (p : IfSome s.doubt (IsUnacknowledged s.plan in_doubt (calls_in failed) s.entries)) where
  pub doubt_since : IfSome after.doubt (IsUnacknowledged s.plan in_doubt (calls_in (failed_after failed c n given)) after.entries)
  doubt_since =
      doubt_on (IsUnacknowledged s.plan in_doubt (calls_in failed)) (IsUnacknowledged s.plan in_doubt (calls_in (failed_after failed c n given)))
      (unacknowledged_wider s.plan in_doubt (calls_in failed) (calls_in (failed_after failed c n given)) (calls_after failed c n given)) s c given after settles (fails_after in_doubt s failed c n given) p

  pub since_on : (rest : List Entry) (begun : ℕ) (old disk : D) → least ≤ length s.entries → after.entries ≡ s.entries ++ rest → (given ≡ posted.NoMemory → disk ≡ old)
      → IsKeptSince moment was_image s.plan least in_doubt (calls_in failed) s.entries begun old → AtEachMoment moment was_image old disk (RecoversNear s.plan s.entries (IsInHand s c))
      → IsKeptSince moment was_image s.plan least in_doubt (calls_in (failed_after failed c n given)) after.entries begun disk
  since_on rest begun old disk long grows memory since run = by_given given refl
    where
      calls : List Call
      calls = calls_in (failed_after failed c n given)

      wide : IsKeptSince moment was_image s.plan least in_doubt (calls_in (failed_after failed c n given)) s.entries begun old
      wide = is_since_wider moment was_image s.plan least in_doubt (calls_in failed) (calls_in (failed_after failed c n given)) s.entries begun old (calls_after failed c n given) since

      some_memory : (given ≡ posted.NoMemory → ⊥) → IsKeptSince moment was_image s.plan least in_doubt (calls_in (failed_after failed c n given)) after.entries begun disk
      some_memory some = inr (kept_on moment was_image s.plan least in_doubt (calls_in (failed_after failed c n given)) s.entries after.entries rest begun old disk long grows wide
          (at_each moment was_image s.plan least in_doubt old disk _ _
          (near_on (IsUnacknowledged s.plan in_doubt (calls_in failed)) (IsUnacknowledged s.plan in_doubt (calls_in (failed_after failed c n given)))
          (unacknowledged_wider s.plan in_doubt (calls_in failed) (calls_in (failed_after failed c n given)) (calls_after failed c n given)) s c least given after rest long grows settles some
          (fails_after in_doubt s failed c n given) p) run))

      by_given : (g : Posted) → given ≡ g → IsKeptSince moment was_image s.plan least in_doubt (calls_in (failed_after failed c n given)) after.entries begun disk
      by_given (posted.Reply r) is = some_memory (λ none. let bad : posted.Reply r ≡ posted.NoMemory = sym is ∙ none in cc)
      by_given posted.Disk is = some_memory (λ none. let bad : posted.Disk ≡ posted.NoMemory = sym is ∙ none in cc)
      by_given posted.NoMemory is =
          let stays = memory_stays s c given after settles is in
          subst (λ (h : List Entry). IsKeptSince moment was_image s.plan least in_doubt calls h begun disk) (sym stays)
          (subst (λ (d : D). IsKeptSince moment was_image s.plan least in_doubt calls s.entries begun d) (sym (memory is)) wide)
