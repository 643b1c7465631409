-- What a pass was told of its calls is a talk over every history that begins with what it has seen.
use Rattle.std.proofs.Common.{◌≡◌, inl, inr, ℕ, ◌+◌, ◌-◌, ◌^◌, ◌≤◌, min, List, [], ◌∷◌, ◌++◌, length, sym, ap, subst, ◌∙◌, arith, length-append, append_assoc, append-nil}
use mathlib.Core.List.{IsPrefix}
use Rattle.cf_model.specs.Common.{Call, Entry, Posted, Reply}
use Rattle.cf_calls.specs.declared.reply.Posted.TheVariants as posted
use Rattle.cf_chart.specs.Common.{Plan}
use Rattle.cf_hall_names.specs.Lists.{entries_of}
use Rattle.cf_turns.specs.Lists.{TaggedEntry}
use Rattle.cf_turns.specs.States.{PassState}
use Rattle.cf_turns.proofs.Beginnings.{IsPrefix-self, IsPrefix-trans, IsPrefix-length}
use Rattle.cf_serve_laws.specs.PassTalks.{Said, place_of, places_of, fault_of, faults_of, failed_by, failed_of, FailedAt, Says, added, kept, memory, disk, PassTalk, Hears, told, lost, Talked}
use Rattle.cf_hall_names.specs.Telling.{Tells, Adds, Keeps, Fails, Reads, Replies}
use Rattle.cf_serve_laws.proofs.Accepting.{added_place, kept_place}
use Rattle.cf_hall_names.proofs.Entries.{entries_append, entries_length}
use Rattle.cf_serve_laws.proofs.Entries.{entries_front}

-- ---- beginnings

hears_seen : (plan : Plan) (a b : PassState) (c : Call) (given : Posted) → Hears plan a c given b → IsPrefix a.seen b.seen
hears_seen plan a _ c _ (told given b t) = t.0.seen
hears_seen plan a _ c _ (lost given b t p f q) = t.0.seen

talked_seen : (plan : Plan) (a b : PassState) (said : List Said) → Talked plan a said b → IsPrefix a.seen b.seen
talked_seen plan a b [] t = subst (λ (p : PassState). IsPrefix a.seen p.seen) (sym t) (IsPrefix-self a.seen)
talked_seen plan a b (s ∷ said) t = IsPrefix-trans a.seen t.0.seen b.seen (hears_seen plan a t.0 s.0 s.1 t.1) (talked_seen plan t.0 b said t.2)

-- ---- the talk

-- it names no place past what the pass has seen then
record SaysOver (plan : Plan) (history : List Entry) (least : ℕ) (c : Call) (given : Posted) (most : ℕ) : Type 0 where
  at : ℕ
  says : Says plan history least c given at
  within : at ≤ most

module _ (plan : Plan) (a m : PassState) (list : List TaggedEntry) (least : ℕ) (c : Call) (front : IsPrefix m.seen list) (low : least ≤ length a.seen) where
  added_over : (r : Reply) → Reads a m → Replies a m r → Adds plan a m c r → SaysOver plan (entries_of list) least c (posted.Reply r) (length m.seen)
  added_over r reads replies adds =
      let is : entries_of m.seen ≡ entries_of adds.before ++ adds.entry ∷ [] = ap entries_of adds.list ∙ entries_append adds.before ((adds.entry, a.number) ∷ []) in
      let long : length m.seen ≡ length adds.before + 1 = ap length adds.list ∙ length-append adds.before ((adds.entry, a.number) ∷ []) in
      let seen = IsPrefix-length a.seen adds.before adds.seen in
      record {
        at = r.at;
        says = added r (omega (arith, low, seen, long, replies.at)) (record {
          before = entries_of adds.before;
          entry = adds.entry;
          front = subst (λ (h : List Entry). IsPrefix h (entries_of list)) is (entries_front m.seen list front);
          at = omega (arith, replies.at, long, entries_length adds.before);
          body = adds.body;
          next = adds.next ∙ is;
        });
        within = omega (arith, replies.at);
      }

  kept_over : (r : Reply) → Reads a m → Replies a m r → Keeps plan a m c r → SaysOver plan (entries_of list) least c (posted.Reply r) (length m.seen)
  kept_over r reads replies keeps =
      let seen = IsPrefix-length a.seen m.seen reads.seen in
      record {
        at = r.at;
        says = kept r (omega (arith, low, seen, replies.at)) (record {
          front = entries_of m.seen;
          is_front = entries_front m.seen list front;
          at = replies.at ∙ sym (entries_length m.seen);
          body = keeps.body;
          next = keeps.next;
        });
        within = omega (arith, replies.at);
      }

  failed_over : Reads a m → Fails plan a m c → FailedAt plan (entries_of list) least c
  failed_over reads fails = record {
    front = entries_of m.seen;
    is_front = entries_front m.seen list front;
    legal = fails.legal;
    long = omega (arith, low, IsPrefix-length a.seen m.seen reads.seen, entries_length m.seen);
    accepted = fails.accepted;
  }

  told_over : (given : Posted) → Tells plan a m c given → SaysOver plan (entries_of list) least c given (length m.seen)
  told_over (posted.Reply r) (reads, (replies, inl adds)) = added_over r reads replies adds
  told_over (posted.Reply r) (reads, (replies, inr keeps)) = kept_over r reads replies keeps
  told_over posted.NoMemory t = record { at = least; says = memory; within = omega (arith, low, IsPrefix-length a.seen m.seen t.0.seen) }
  told_over posted.Disk t = record { at = least; says = disk (failed_over t.0 t.1); within = omega (arith, low, IsPrefix-length a.seen m.seen t.0.seen) }

hears_over : (plan : Plan) (a m : PassState) (list : List TaggedEntry) (least : ℕ) (c : Call) (given : Posted) → Hears plan a c given m → IsPrefix m.seen list → least ≤ length a.seen
    → SaysOver plan (entries_of list) least c given (length m.seen)
hears_over plan a _ list least c _ (told given m t) front low = told_over plan a m list least c front low given t
hears_over plan a _ list least c _ (lost given m t p f q) front low = record { at = least; says = memory; within = omega (arith, low, IsPrefix-length a.seen m.seen t.0.seen) }

pub talk_over : (plan : Plan) (a b : PassState) (said : List Said) (list : List TaggedEntry) (least : ℕ) → Talked plan a said b → IsPrefix b.seen list → least ≤ length a.seen
    → PassTalk plan (entries_of list) least said
talk_over plan a b [] list least t front low = tt
talk_over plan a b (s ∷ said) list least t front low =
    let later = IsPrefix-trans t.0.seen b.seen list (talked_seen plan t.0 b said t.2) front in
    let here = hears_over plan a t.0 list least s.0 s.1 t.1 later low in
    (here.at, here.says, talk_over plan t.0 b said list here.at t.2 front here.within)

-- ---- over a longer history

-- ---- the places

told_places : (plan : Plan) (a m : PassState) (c : Call) (given : Posted) → Tells plan a m c given → m.places ≡ a.places ++ place_of given
told_places plan a m c (posted.Reply r) (reads, (replies, inl adds)) =
    let is : entries_of m.seen ≡ entries_of adds.before ++ adds.entry ∷ [] = ap entries_of adds.list ∙ entries_append adds.before ((adds.entry, a.number) ∷ []) in
    adds.places ∙ ap (λ (xs : List ℕ). a.places ++ xs) (sym (added_place plan (entries_of adds.before) c r.at r.body adds.entry adds.body (adds.next ∙ is)))
told_places plan a m c (posted.Reply r) (reads, (replies, inr keeps)) =
    keeps.places ∙ (sym (append-nil a.places) ∙ ap (λ (xs : List ℕ). a.places ++ xs) (sym (kept_place plan (entries_of m.seen) c r.at r.body keeps.body keeps.next)))
told_places plan a m c posted.NoMemory t = t.1.0.places ∙ sym (append-nil a.places)
told_places plan a m c posted.Disk t = t.1.places ∙ sym (append-nil a.places)

hears_places : (plan : Plan) (a m : PassState) (c : Call) (given : Posted) → Hears plan a c given m → m.places ≡ a.places ++ place_of given
hears_places plan a _ c _ (told given m t) = told_places plan a m c given t
hears_places plan a _ c _ (lost given m t p f q) = p ∙ sym (append-nil a.places)

pub talk_places : (plan : Plan) (a b : PassState) (said : List Said) → Talked plan a said b → b.places ≡ a.places ++ places_of said
talk_places plan a b [] t = ap (λ (p : PassState). p.places) t ∙ sym (append-nil a.places)
talk_places plan a b (s ∷ said) t =
    talk_places plan t.0 b said t.2 ∙ (ap (λ (xs : List ℕ). xs ++ places_of said) (hears_places plan a t.0 s.0 s.1 t.1) ∙ append_assoc a.places (place_of s.1) (places_of said))

-- ---- the fault replies

told_faults : (plan : Plan) (a m : PassState) (c : Call) (given : Posted) → a.faults ≤ 2 ^ 64 - 1 → Tells plan a m c given → m.faults ≡ min (a.faults + fault_of given) (2 ^ 64 - 1)
told_faults plan a m c (posted.Reply r) few t = omega (arith, few, t.1.0.faults)
told_faults plan a m c posted.NoMemory few t = omega (arith, few, t.1.1)
told_faults plan a m c posted.Disk few t = t.1.faults

hears_faults : (plan : Plan) (a m : PassState) (c : Call) (given : Posted) → a.faults ≤ 2 ^ 64 - 1 → Hears plan a c given m → m.faults ≡ min (a.faults + fault_of given) (2 ^ 64 - 1)
hears_faults plan a _ c _ few (told given m t) = told_faults plan a m c given few t
hears_faults plan a _ c _ few (lost given m t p f q) = omega (arith, few, f)

pub talk_faults : (plan : Plan) (a b : PassState) (said : List Said) → a.faults ≤ 2 ^ 64 - 1 → Talked plan a said b → b.faults ≡ min (a.faults + faults_of said) (2 ^ 64 - 1)
talk_faults plan a b [] few t = omega (arith, few, ap (λ (p : PassState). p.faults) t)
talk_faults plan a b (s ∷ said) few t =
    let here = hears_faults plan a t.0 s.0 s.1 few t.1 in
    omega (arith, here, few, talk_faults plan t.0 b said (omega (arith, here)) t.2)

-- ---- the calls that were answered so

told_failed : (plan : Plan) (a m : PassState) (c : Call) (given : Posted) → Tells plan a m c given → m.failed ≡ a.failed ++ failed_by c given
told_failed plan a m c (posted.Reply r) t = t.1.0.failed ∙ sym (append-nil a.failed)
told_failed plan a m c posted.NoMemory t = t.1.0.failed ∙ sym (append-nil a.failed)
told_failed plan a m c posted.Disk t = t.1.failed

hears_failed : (plan : Plan) (a m : PassState) (c : Call) (given : Posted) → Hears plan a c given m → m.failed ≡ a.failed ++ failed_by c given
hears_failed plan a _ c _ (told given m t) = told_failed plan a m c given t
hears_failed plan a _ c _ (lost given m t p f q) = q ∙ sym (append-nil a.failed)

pub talk_failed : (plan : Plan) (a b : PassState) (said : List Said) → Talked plan a said b → b.failed ≡ a.failed ++ failed_of said
talk_failed plan a b [] t = ap (λ (p : PassState). p.failed) t ∙ sym (append-nil a.failed)
talk_failed plan a b (s ∷ said) t =
    talk_failed plan t.0 b said t.2 ∙ (ap (λ (cs : List Call). cs ++ failed_of said) (hears_failed plan a t.0 s.0 s.1 t.1) ∙ append_assoc a.failed (failed_by s.0 s.1) (failed_of said))
