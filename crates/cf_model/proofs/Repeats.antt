-- A change that was taken is known from then on.
use Rattle.std.proofs.Common.{◌≡◌, ◌⊎◌, inl, inr, ℕ, zero, suc, ◌+◌, ◌-◌, ◌<◌, ◌≤◌, Bool, true, false, if◌then◌else◌, ◌&&◌, nat_lt, List, [], ◌∷◌, ◌++◌, length, Option, Some, None, slice_get, refl, sym, ap, ◌∙◌, arith}
use Rattle.cf_base.proofs.Common.{leb_tells}
use Rattle.cf_calls.specs.declared.call.Change.{Change}
use Rattle.cf_calls.specs.declared.entry.Drawn.{Drawn}
use Rattle.cf_calls.specs.declared.entry.Entry.{Entry}
use Rattle.cf_calls.specs.declared.refusal.Refusal.{Refusal}
use Rattle.cf_calls.specs.declared.refusal.Refusal.TheVariants as refusal
use Rattle.cf_calls.specs.declared.reply.Verdict.{Verdict}
use Rattle.cf_calls.specs.declared.reply.Verdict.TheVariants.{Accept, Repeat, Refuse}
use Rattle.cf_calls.specs.Common.{same_act, same_call, same_day}
use Rattle.cf_calls.specs.Same.{same_key}
use Rattle.cf_calls.proofs.SameCalls.{same_call_decides}
use Rattle.cf_chart.specs.Common.{Plan}
use Rattle.cf_model.specs.Common.{history_after, IsTaken, RepeatsAddNothing, registers_of, draws, ahead_refusal, desk_refusal, first_of, or_else, place_from, entry_at, is_same, known_at, later_rules, next_by, verdict_after, verdict_by, verdict_new, verdict_of}
use Rattle.cf_model.proofs.First.{refuse_none}

-- the history has the change, at the first place of its desk and key
record IsKnown (plan : Plan) (h : List Entry) (c : Change) : Type 0 where
  desk : desk_refusal plan c.desk ≡ None
  seen : ahead_refusal c.after (length h) ≡ None
  was : ℕ
  at : known_at h c ≡ Some was
  entry : Entry
  stands : entry_at h was ≡ Some entry
  same : same_call c entry.change ≡ true

-- ---- one entry more

length_push : (h : List Entry) (e : Entry) → length (h ++ (e ∷ [])) ≡ length h + 1
length_push [] e = refl
length_push (x ∷ h) e = omega (arith, length_push h e)

ahead_stays : (o : Option ℕ) (m n : ℕ) → m ≤ n → ahead_refusal o m ≡ None → ahead_refusal o n ≡ None
ahead_stays None m n l e = refl
ahead_stays (Some after) m n l e = by_tests (nat_lt m after) (nat_lt n after) (leb_tells (suc m) after) (leb_tells (suc n) after) (refuse_none (nat_lt m after) (refusal.Ahead after m) e)
  where
    by_tests : (b d : Bool) → ((b ≡ true) × (suc m ≤ after)) ⊎ ((b ≡ false) × (after < suc m)) → ((d ≡ true) × (suc n ≤ after)) ⊎ ((d ≡ false) × (after < suc n)) → b ≡ false →
        (if d then Some (refusal.Ahead after n) else None) ≡ None
    by_tests b true (inl p) (inl q) e = cc
    by_tests b true (inr p) (inl q) e = absurd (omega (arith, p.1, q.1, l))
    by_tests b true p (inr q) e = cc
    by_tests b false p q e = refl

place_stays : (n : ℕ) (p : Entry → Bool) (h : List Entry) (e : Entry) (was : ℕ) → place_from n p h ≡ Some was → place_from n p (h ++ (e ∷ [])) ≡ Some was
place_stays n p [] e was is = cc
place_stays n p (x ∷ h) e was is = by_test (p x) is (place_stays (n + 1) p h e was)
  where
    by_test : (b : Bool) → (if b then Some n else place_from (n + 1) p h) ≡ Some was → (place_from (n + 1) p h ≡ Some was → place_from (n + 1) p (h ++ (e ∷ [])) ≡ Some was) →
        (if b then Some n else place_from (n + 1) p (h ++ (e ∷ []))) ≡ Some was
    by_test true is more = is
    by_test false is more = more is

place_new : (n : ℕ) (p : Entry → Bool) (h : List Entry) (e : Entry) → place_from n p h ≡ None → p e ≡ true → place_from n p (h ++ (e ∷ [])) ≡ Some (n + length h)
place_new n p [] e none is = rw is (ap Some (last n))
  where
    last : (n : ℕ) → n ≡ n + 0
    last n = omega arith
place_new n p (x ∷ h) e none is = by_test (p x) none (λ more. place_new (n + 1) p h e more is)
  where
    next : (n k : ℕ) → (n + 1) + k ≡ n + suc k
    next n k = omega arith

    by_test : (b : Bool) → (if b then Some n else place_from (n + 1) p h) ≡ None → (place_from (n + 1) p h ≡ None → place_from (n + 1) p (h ++ (e ∷ [])) ≡ Some ((n + 1) + length h)) →
        (if b then Some n else place_from (n + 1) p (h ++ (e ∷ []))) ≡ Some (n + suc (length h))
    by_test true none more = cc
    by_test false none more = more none ∙ ap Some (next n (length h))

get_stays : (h : List Entry) (e : Entry) (i : ℕ) (x : Entry) → slice_get h i ≡ Some x → slice_get (h ++ (e ∷ [])) i ≡ Some x
get_stays [] e i x is = cc
get_stays (y ∷ h) e zero x is = is
get_stays (y ∷ h) e (suc i) x is = get_stays h e i x is

get_new : (h : List Entry) (e : Entry) → slice_get (h ++ (e ∷ [])) (length h) ≡ Some e
get_new [] e = refl
get_new (y ∷ h) e = get_new h e

before : (n : ℕ) → (1 + n) - 1 ≡ n
before n = omega arith

known_push : (plan : Plan) (h : List Entry) (c : Change) (e : Entry) → IsKnown plan h c → IsKnown plan (h ++ (e ∷ [])) c
known_push plan h c e k = record {
  desk = k.desk;
  seen = ahead_stays c.after (length h) (length (h ++ (e ∷ []))) (omega (arith, length_push h e)) k.seen;
  was = k.was;
  at = place_stays 1 (λ x. same_key c.desk c.key x.change) h e k.was k.at;
  entry = k.entry;
  stands = get_stays h e (k.was - 1) k.entry k.stands;
  same = k.same;
}

known_next : (plan : Plan) (h : List Entry) (c d : Change) (v : Verdict) → IsKnown plan h c → IsKnown plan (next_by v h d) c
known_next plan h c d (Accept drawn) k = known_push plan h c (record { change = record d { after = None }; drawn = drawn }) k
known_next plan h c d (Repeat was) k = k
known_next plan h c d (Refuse r) k = k

known_after : (plan : Plan) (h : List Entry) (c : Change) (changes : List Change) → IsKnown plan h c → IsKnown plan (history_after plan h changes) c
known_after plan h c [] k = k
known_after plan h c (d ∷ changes) k = known_after plan (next_by (verdict_of plan h d) h d) c changes (known_next plan h c d (verdict_of plan h d) k)

-- a known change is a repeat
known_repeats : (plan : Plan) (h : List Entry) (c : Change) (k : IsKnown plan h c) → verdict_of plan h c ≡ Repeat k.was
known_repeats plan h c k = rw (k.desk, k.seen, k.at, k.stands, k.same) refl

-- ---- a change that is taken is known

and_first : (a b : Bool) → (a && b) ≡ true → a ≡ true
and_first true b e = refl
and_first false b e = e

own_key : (c : Change) → same_key c.desk c.key (record c { after = None }) ≡ true
own_key c =
    let e : Change = record c { after = None } in
    and_first (same_key c.desk c.key e) (same_day c.on c.on) (and_first (same_key c.desk c.key e && same_day c.on c.on) (same_act c.act c.act) ((same_call_decides c e).1 refl))

taken : (plan : Plan) (h : List Entry) (c : Change) → IsTaken (verdict_of plan h c) → IsKnown plan (next_by (verdict_of plan h c) h c) c
taken plan h c t = by_first (desk_refusal plan c.desk) (ahead_refusal c.after (length h)) refl refl t
  where
    by_test : (was : ℕ) (e : Entry) (b : Bool) → desk_refusal plan c.desk ≡ None → ahead_refusal c.after (length h) ≡ None → known_at h c ≡ Some was → entry_at h was ≡ Some e → same_call c e.change ≡ b →
        IsTaken (if b then Repeat was else Refuse (refusal.KeyReused was)) → IsKnown plan (next_by (if b then Repeat was else Refuse (refusal.KeyReused was)) h c) c
    by_test was e true desk seen at is same t = record { desk = desk; seen = seen; was = was; at = at; entry = e; stands = is; same = same }
    by_test was e false desk seen at is same t = absurd t

    by_entry : (was : ℕ) (x : Option Entry) → desk_refusal plan c.desk ≡ None → ahead_refusal c.after (length h) ≡ None → known_at h c ≡ Some was → entry_at h was ≡ x →
        IsTaken (if is_same c x then Repeat was else Refuse (refusal.KeyReused was)) → IsKnown plan (next_by (if is_same c x then Repeat was else Refuse (refusal.KeyReused was)) h c) c
    by_entry was None desk seen at is t = absurd t
    by_entry was (Some e) desk seen at is t = by_test was e (same_call c e.change) desk seen at is refl t

    by_rules : (drawn : Drawn) (r : Option Refusal) → desk_refusal plan c.desk ≡ None → ahead_refusal c.after (length h) ≡ None → known_at h c ≡ None →
        IsTaken (verdict_by drawn r) → IsKnown plan (next_by (verdict_by drawn r) h c) c
    by_rules drawn (Some r) desk seen at t = absurd t
    by_rules drawn None desk seen at t =
        let e : Entry = record { change = record c { after = None }; drawn = drawn } in
        record {
          desk = desk;
          seen = ahead_stays c.after (length h) (length (h ++ (e ∷ []))) (omega (arith, length_push h e)) seen;
          was = 1 + length h;
          at = place_new 1 (λ x. same_key c.desk c.key x.change) h e at (own_key c);
          entry = e;
          stands = ap (λ i. slice_get (h ++ (e ∷ [])) i) (before (length h)) ∙ get_new h e;
          same = (same_call_decides c (record c { after = None })).1 refl;
        }

    by_known : (k : Option ℕ) → desk_refusal plan c.desk ≡ None → ahead_refusal c.after (length h) ≡ None → known_at h c ≡ k →
        IsTaken (verdict_new plan h c k) → IsKnown plan (next_by (verdict_new plan h c k) h c) c
    by_known None desk seen at t = by_rules (draws (registers_of plan h) c.act) (first_of (later_rules plan h c)) desk seen at t
    by_known (Some was) desk seen at t = by_entry was (entry_at h was) desk seen at refl t

    by_first : (d a : Option Refusal) → desk_refusal plan c.desk ≡ d → ahead_refusal c.after (length h) ≡ a →
        IsTaken (verdict_after plan h c (or_else d (or_else a None))) → IsKnown plan (next_by (verdict_after plan h c (or_else d (or_else a None))) h c) c
    by_first None None desk seen t = by_known (known_at h c) desk seen refl t
    by_first None (Some r) desk seen t = absurd t
    by_first (Some r) a desk seen t = absurd t

-- ---- calls one after another

joined : (plan : Plan) (h : List Entry) (xs ys : List Change) → history_after plan h (xs ++ ys) ≡ history_after plan (history_after plan h xs) ys
joined plan h [] ys = refl
joined plan h (c ∷ xs) ys = joined plan (next_by (verdict_of plan h c) h c) xs ys

pub repeats_add_nothing : RepeatsAddNothing
repeats_add_nothing plan h c between later t =
    let first = next_by (verdict_of plan h c) h c in
    let later_on = history_after plan first between in
    let known : IsKnown plan later_on c = known_after plan first c between (taken plan h c t) in
    joined plan first between (c ∷ later) ∙ ap (λ v. history_after plan (next_by v later_on c) later) (known_repeats plan later_on c known) ∙ sym (joined plan first between later)
