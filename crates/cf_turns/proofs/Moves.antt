-- Each kind of step keeps the rule.
use Rattle.std.proofs.Common.{◌≡◌, ◌≢◌, ◌⊎◌, inl, inr, ℕ, zero, suc, ◌+◌, ◌%◌, ◌^◌, ◌<◌, ◌≤◌, List, [], ◌∷◌, ◌++◌, length, set, true, false, refl, sym, ap, ◌∙◌, subst, ⊎_elim, arith, length-append, slice_index, slice_set}
use Rattle.cf_base.specs.Common.{most_entries}
use mathlib.Core.Option.{some, some-ne-none, some-injective}
use mathlib.Core.List.{IsPrefix}
use lib.ListN.{get_elem?}
use Rattle.atomic_table.specs.Table.{Allows, Splits, Joins, keeps}
use Rattle.atomic_table.proofs.Lists.{at_set, set_again, set_else}
use Rattle.cf_calls.specs.declared.call.Call.{Call}
use Rattle.cf_calls.specs.declared.entry.Entry.{Entry}
use Rattle.cf_turns.specs.declared.rule.View.{View}
use Rattle.cf_turns.specs.Lists.{TaggedCall, TaggedEntry, calls_of, count_of, places_of, longer}
use Rattle.cf_turns.specs.Rule.{blank, first_view, Shared, IsRecorders, IsLive, Fits, AreGivenOut, HaveOwnNumbers, IsKept, Holds}
use Rattle.cf_turns.specs.Steps.{Seated, without_number, view_of_number, with_number, Records, Fails, view_of_note, with_note, Learns, with_next_number, view_of_pass, view_of_receipts, with_pass, Ends, Asks, view_of_ask, with_ask, Hears}
use Rattle.cf_turns.proofs.Beginnings.{IsPrefix-self, IsPrefix-nil, IsPrefix-append, IsPrefix-length, begin_longer}
use Rattle.cf_turns.proofs.Numbers.{count_of-other, once_more}
use Rattle.cf_turns.proofs.Places.{places_of-other, places_of-own, length-places_of}
use Rattle.cf_turns.proofs.Calls.{calls_of-other, calls_of-own}
use Rattle.cf_turns.proofs.Views.{set_swap, false≢true, fits_plain, fits_blank, HasOwnNumber, HasNewNumber, kept_set, kept_snoc, own_number, no_number, kept_view}

-- the word becomes f of what it was, and one seat's view changes
abbrev pub Goes : ℕ → View → (ℕ → ℕ) → (ℕ → View → Type 0) → Type 0
Goes id v f then = (t : Shared) (views : List View) → IsKept t (length t.list ∷ []) views → get_elem? views id ≡ some v
    → (w : View) × (t' : Shared) × (length t'.list ≡ f (length t.list)) × IsKept t' (length t'.list ∷ []) (set views id w) × then (length t.list) w

-- what the table asks of a step on the word
pub goes : (slots id : ℕ) (me : Seated) (f : ℕ → ℕ) (then : ℕ → Seated → Type 0) → Goes id me.0 f (λ n w. then n (w, me.1)) → Allows Holds slots id me 0 f then
goes slots id me f then go s holds homes at small =
    let t = holds.0 in
    let kept : IsKept t (length t.list ∷ []) s.views = subst (λ ws. IsKept t ws s.views) holds.1.word holds.1 in
    let next = go t s.views kept at in
    let P : List ℕ → Type 0 = λ ws. Holds record { words = slice_set ws 0 (f (slice_index ws 0)); homes = s.homes; views = set s.views id next.0 } × then (slice_index ws 0) (next.0, me.1) in
    let here : P (length t.list ∷ []) = ((next.1, subst (λ n. IsKept next.1 (n ∷ []) (set s.views id next.0)) next.2 next.3), next.4) in
    let there : P s.words = subst P (sym holds.1.word) here in
    (next.0, keeps, tt, there.0, there.1)

-- the recorder's part of a view stands in another view of the same list and numbers
as_recorder : (t : Shared) (id : ℕ) (v w : View) → w.list ≡ v.list → w.opened ≡ v.opened → w.ended ≡ v.ended → w.failed ≡ v.failed → IsRecorders t id v → IsRecorders t id w
as_recorder t id v w list opened ended failed r = record { seat_is = r.seat_is; list = list ∙ r.list; opened = opened ∙ r.opened; ended = ended ∙ r.ended; failed = failed ∙ r.failed }

-- what stands behind the word once an entry was recorded for this number
abbrev with_entry : Shared → Entry → ℕ → Shared
with_entry t e n = record t { list = t.list ++ (e, n) ∷ [] }

-- another seat's view after an entry was recorded
fits_more : (t : Shared) (e : Entry) (n : ℕ) (j : ℕ) (u : View) → Fits t j u → (u.records ≡ true → ⊥) → (u.has_number ≡ true → n ≢ u.number) → Fits (with_entry t e n) j u
fits_more t e n j u fit other apart = record {
  recorder = λ r. absurd (other r);
  list = IsPrefix-append _ _ _ fit.list;
  joined = IsPrefix-append _ _ _ fit.joined;
  floor = omega (arith, length-append t.list ((e, n) ∷ []), fit.floor);
  number = λ has. record {
    given = (fit.number has).given;
    live = (fit.number has).live;
    places = (fit.number has).places ∙ sym (places_of-other u.number t.list e n (apart has));
    failed = (fit.number has).failed;
  };
}

-- the recorder's own view after it
fits_recorded : (t : Shared) (e : Entry) (id : ℕ) (v : View) → Fits t id v → v.records ≡ true → v.has_number ≡ true
    → Fits (with_entry t e v.number) id (record v { list = v.list ++ (e, v.number) ∷ []; places = v.places ++ (length t.list + 1) ∷ [] })
fits_recorded t e id v fit is has = record {
  recorder = λ _. record { seat_is = mine.seat_is; list = list'; opened = mine.opened; ended = mine.ended; failed = mine.failed };
  list = subst (λ l. IsPrefix l (t.list ++ more)) (sym list') (IsPrefix-self (t.list ++ more));
  joined = IsPrefix-append _ _ more fit.joined;
  floor = omega (arith, length-append t.list more, fit.floor);
  number = λ _. record {
    given = live.given;
    live = live.live;
    places = ap (λ l. l ++ (length t.list + 1) ∷ []) live.places ∙ sym (places_of-own v.number t.list e);
    failed = live.failed;
  };
}
  where
    more : List TaggedEntry
    more = (e, v.number) ∷ []

    mine : IsRecorders t id v
    mine = fit.recorder is

    live : IsLive t v.number v.places v.own_failed
    live = fit.number has

    list' : v.list ++ more ≡ t.list ++ more
    list' = ap (λ l. l ++ more) mine.list

given_after : (t : Shared) (e : Entry) (n : ℕ) → n < t.opened → AreGivenOut t → AreGivenOut (with_entry t e n)
given_after t e n given numbers = record {
  once = numbers.once;
  ended = numbers.ended;
  recorded = λ m le. places_of-other m t.list e n (λ same. absurd (omega (arith, le, given, same))) ∙ numbers.recorded m le;
  failed = numbers.failed;
}

-- record, while the recorder has the pass's number
records_one : (slots id : ℕ) (me : Seated) (e : Entry) → me.0.records ≡ true → me.0.has_number ≡ true → length me.0.list < most_entries
    → Allows Holds slots id me 0 (λ n. (n + 1) % 2 ^ 64) (λ n w. Records ((e, me.0.number) ∷ []) me n w)
records_one slots id me e is has few = goes slots id me (λ n. (n + 1) % 2 ^ 64) (λ n w. Records ((e, me.0.number) ∷ []) me n w) go
  where
    go : Goes id me.0 (λ n. (n + 1) % 2 ^ 64) (λ n w. Records ((e, me.0.number) ∷ []) me n (w, me.1))
    go t views kept at =
        let v = me.0 in
        let fit = kept.fits id v at in
        let mine = fit.recorder is in
        let live = fit.number has in
        let w : View = record v { list = v.list ++ (e, v.number) ∷ []; places = v.places ++ (length t.list + 1) ∷ [] } in
        let long : length t.list ≡ length v.list = ap length (sym mine.list) in
        let more : length (t.list ++ (e, v.number) ∷ []) ≡ (length t.list + 1) % 2 ^ 64 = omega (arith, length-append t.list ((e, v.number) ∷ []), long, few) in
        let others : (j : ℕ) (u : View) → j ≢ id → get_elem? views j ≡ some u → Fits (with_entry t e v.number) j u = λ j u ne there.
        let f = kept.fits j u there in
        fits_more t e v.number j u f (λ r. ne ((f.recorder r).seat_is ∙ sym mine.seat_is)) (λ has_u same. ne (kept.apart j id u v there at has_u has (sym same))) in
        let room : length v.places ≤ length t.list = omega (arith, ap length live.places, length-places_of v.number t.list) in (
          w,
          with_entry t e v.number,
          more,
          kept_set t (with_entry t e v.number) _ views id w kept others (fits_recorded t e id v fit is has) (own_number t _ views id v w kept at (λ x. x) refl)
              (given_after t e v.number live.given kept.numbers),
          record { leaves = (refl, refl); length_is = long; few_places = room },
        )

pub records : (slots id : ℕ) (me : Seated) (e : Entry) (entries : List TaggedEntry) → entries ≡ (e, me.0.number) ∷ [] → me.0.records ≡ true → me.0.has_number ≡ true
    → length me.0.list < most_entries → Allows Holds slots id me 0 (λ n. (n + 1) % 2 ^ 64) (λ n w. Records entries me n w)
records slots id me e entries one is has few =
    subst (λ es. Allows Holds slots id me 0 (λ n. (n + 1) % 2 ^ 64) (λ n w. Records es me n w)) (sym one) (records_one slots id me e is has few)

-- what stands behind the word once a call of this number failed
abbrev with_failed : Shared → Call → ℕ → Shared
with_failed t c n = record t { failed = t.failed ++ (c, n) ∷ [] }

given_after_fault : (t : Shared) (c : Call) (n : ℕ) → n < t.opened → AreGivenOut t → AreGivenOut (with_failed t c n)
given_after_fault t c n given numbers = record {
  once = numbers.once;
  ended = numbers.ended;
  recorded = numbers.recorded;
  failed = λ m le. calls_of-other m t.failed c n (λ same. absurd (omega (arith, le, given, same))) ∙ numbers.failed m le;
}

-- the load of fail, while the recorder has the pass's number
fails_one : (slots id : ℕ) (me : Seated) (c : Call) → me.0.records ≡ true → me.0.has_number ≡ true → Allows Holds slots id me 0 (λ n. n) (λ n w. Fails ((c, me.0.number) ∷ []) me n w)
fails_one slots id me c is has = goes slots id me (λ n. n) (λ n w. Fails ((c, me.0.number) ∷ []) me n w) go
  where
    go : Goes id me.0 (λ n. n) (λ n w. Fails ((c, me.0.number) ∷ []) me n (w, me.1))
    go t views kept at =
        let v = me.0 in
        let fit = kept.fits id v at in
        let mine = fit.recorder is in
        let live = fit.number has in
        let t' = with_failed t c v.number in
        let w : View = record v { failed = v.failed ++ (c, v.number) ∷ []; own_failed = v.own_failed ++ c ∷ [] } in
        let others : (j : ℕ) (u : View) → j ≢ id → get_elem? views j ≡ some u → Fits t' j u = λ j u ne there.
        let f = kept.fits j u there in record {
          recorder = λ r. absurd (ne ((f.recorder r).seat_is ∙ sym mine.seat_is));
          list = f.list;
          joined = f.joined;
          floor = f.floor;
          number = λ n. record {
            given = (f.number n).given;
            live = (f.number n).live;
            places = (f.number n).places;
            failed = (f.number n).failed ∙ sym (calls_of-other u.number t.failed c v.number (λ same. ne (kept.apart j id u v there at n has (sym same))));
          };
        } in
        let fit' : Fits t' id w = record {
          recorder = λ _. record { seat_is = mine.seat_is; list = mine.list; opened = mine.opened; ended = mine.ended; failed = ap (λ l. l ++ (c, v.number) ∷ []) mine.failed };
          list = fit.list;
          joined = fit.joined;
          floor = fit.floor;
          number = λ _. record {
            given = live.given;
            live = live.live;
            places = live.places;
            failed = ap (λ l. l ++ c ∷ []) live.failed ∙ sym (calls_of-own v.number t.failed c);
          };
        } in (
          w,
          t',
          refl,
          kept_set t t' _ views id w kept others fit' (own_number t _ views id v w kept at (λ x. x) refl) (given_after_fault t c v.number live.given kept.numbers),
          record { leaves = (refl, refl) },
        )

pub fails : (slots id : ℕ) (me : Seated) (c : Call) (calls : List TaggedCall) → calls ≡ (c, me.0.number) ∷ [] → me.0.records ≡ true → me.0.has_number ≡ true
    → Allows Holds slots id me 0 (λ n. n) (λ n w. Fails calls me n w)
fails slots id me c calls one is has = subst (λ cs. Allows Holds slots id me 0 (λ n. n) (λ n w. Fails cs me n w)) (sym one) (fails_one slots id me c is has)

-- the load of learn
pub learns : (slots id : ℕ) (me : Seated) → me.0.records ≡ false → Allows Holds slots id me 0 (λ n. n) (λ n w. Learns me n w)
learns slots id me other = goes slots id me (λ n. n) (λ n w. Learns me n w) go
  where
    go : Goes id me.0 (λ n. n) (λ n w. Learns me n (w, me.1))
    go t views kept at =
        let v = me.0 in
        let fit = kept.fits id v at in
        let both = begin_longer v.list v.joined t.list fit.list fit.joined in
        let w : View = record v { list = longer v.list v.joined; joined = [] } in
        let fit' : Fits t id w = record {
          recorder = λ e. absurd (false≢true (sym other ∙ e));
          list = both.both;
          joined = IsPrefix-nil t.list;
          floor = fit.floor;
          number = fit.number;
        } in
        (w, t, refl, kept_view t _ views id v w kept at fit' (λ x. x) refl, record { leaves = (refl, refl); seen = both.first; note = both.second })

-- the load of ask
pub asks : (slots id : ℕ) (me : Seated) → Allows Holds slots id me 0 (λ n. n) (λ n w. Asks me n w)
asks slots id me = goes slots id me (λ n. n) (λ n w. Asks me n w) go
  where
    go : Goes id me.0 (λ n. n) (λ n w. Asks me n (w, me.1))
    go t views kept at =
        let v = me.0 in
        let fit = kept.fits id v at in
        let w : View = record v { floor = length t.list; reads = v.reads + 1; last_read = length t.list } in
        let fit' : Fits t id w = record {
          recorder = λ e. as_recorder t id v w refl refl refl refl (fit.recorder e);
          list = fit.list;
          joined = fit.joined;
          floor = omega arith;
          number = fit.number;
        } in
        (w, t, refl, kept_view t _ views id v w kept at fit' (λ x. x) refl, record { leaves = (refl, refl); seen = IsPrefix-length v.list t.list fit.list })

-- the load of hear
pub hears : (slots id : ℕ) (me : Seated) → me.0.records ≡ true → Allows Holds slots id me 0 (λ n. n) (λ n w. Hears me n w)
hears slots id me is = goes slots id me (λ n. n) (λ n w. Hears me n w) go
  where
    go : Goes id me.0 (λ n. n) (λ n w. Hears me n (w, me.1))
    go t views kept at =
        let v = me.0 in
        let fit = kept.fits id v at in
        let long : length t.list ≡ length v.list = ap length (sym (fit.recorder is).list) in
        (v, t, refl, kept_view t _ views id v v kept at fit (λ x. x) refl, record { same = refl; length_is = long; floor = omega (arith, long, fit.floor) })

-- what stands behind the word once the pass of this number was ended
abbrev with_ended : Shared → ℕ → Shared
with_ended t n = record t { ended = t.ended ++ n ∷ [] }

given_after_end : (t : Shared) (n : ℕ) → n < t.opened → count_of n t.ended ≡ 0 → AreGivenOut t → AreGivenOut (with_ended t n)
given_after_end t n given live numbers = record {
  once = λ m. once_more m n t.ended live (numbers.once m);
  ended = λ m le. count_of-other m n t.ended (λ same. absurd (omega (arith, le, given, same))) ∙ numbers.ended m le;
  recorded = numbers.recorded;
  failed = numbers.failed;
}

-- the load of end_pass
pub ends : (slots id : ℕ) (me : Seated) → me.0.records ≡ true → me.0.has_number ≡ true → Allows Holds slots id me 0 (λ n. n) (λ n w. Ends me n w)
ends slots id me is has = goes slots id me (λ n. n) (λ n w. Ends me n w) go
  where
    go : Goes id me.0 (λ n. n) (λ n w. Ends me n (w, me.1))
    go t views kept at =
        let v = me.0 in
        let fit = kept.fits id v at in
        let mine = fit.recorder is in
        let live = fit.number has in
        let t' = with_ended t v.number in
        let w : View = record v { joined = []; has_number = false; number = 0; places = []; own_failed = []; ended = v.ended ++ v.number ∷ [] } in
        let others : (j : ℕ) (u : View) → j ≢ id → get_elem? views j ≡ some u → Fits t' j u = λ j u ne there.
        let f = kept.fits j u there in record {
          recorder = λ r. absurd (ne ((f.recorder r).seat_is ∙ sym mine.seat_is));
          list = f.list;
          joined = f.joined;
          floor = f.floor;
          number = λ n. record {
            given = (f.number n).given;
            live = count_of-other u.number v.number t.ended (λ same. ne (kept.apart j id u v there at n has (sym same))) ∙ (f.number n).live;
            places = (f.number n).places;
            failed = (f.number n).failed;
          };
        } in
        let fit' : Fits t' id w = record {
          recorder = λ _. record { seat_is = mine.seat_is; list = mine.list; opened = mine.opened; ended = ap (λ l. l ++ v.number ∷ []) mine.ended; failed = mine.failed };
          list = fit.list;
          joined = IsPrefix-nil t.list;
          floor = fit.floor;
          number = λ n. absurd (false≢true n);
        } in (
          w,
          t',
          refl,
          kept_set t t' _ views id w kept others fit' (no_number views id w refl) (given_after_end t v.number live.given live.live kept.numbers),
          record {
            leaves = (refl, refl);
            seen = subst (IsPrefix v.joined) (sym mine.list) fit.joined;
            given = (let given = live.given in let opened = mine.opened in omega (arith, given, opened));
            fresh = subst (λ l. count_of v.number l ≡ 0) (sym mine.ended) live.live;
            places = live.places ∙ ap (places_of v.number) (sym mine.list);
            recorded = λ n le. ap (places_of n) mine.list ∙ kept.numbers.recorded n (let opened = mine.opened in omega (arith, le, opened));
            failed = live.failed ∙ ap (calls_of v.number) (sym mine.failed);
          },
        )

-- a seat is cut in two and keeps its view
pub splits : (id : ℕ) (v right : View) → ((t : Shared) → Fits t id v → (j : ℕ) → Fits t j right) → right.has_number ≡ false → Splits Holds id v v right
splits id v right fit none s holds at = (
  holds.0,
  subst (λ l. IsKept holds.0 s.words (l ++ right ∷ [])) (sym (set_again s.views id v at))
      (kept_snoc holds.0 s.words s.views right holds.1 (fit holds.0 (holds.1.fits id v at)) (λ j u e has_u has. absurd (false≢true (sym none ∙ has)))),
)

-- note
pub splits_note : (id : ℕ) (v : View) → Splits Holds id v v (view_of_note v)
splits_note id v = splits id v (view_of_note v) (λ t f j. fits_plain t j (view_of_note v) refl refl f.list (IsPrefix-nil t.list) (omega arith)) refl

-- the split of end_pass
pub splits_receipts : (id : ℕ) (v : View) → Splits Holds id v v (view_of_receipts v)
splits_receipts id v = splits id v (view_of_receipts v) (λ t f j. fits_plain t j (view_of_receipts v) refl refl (IsPrefix-nil t.list) (IsPrefix-nil t.list) (omega arith)) refl

-- the split of ask
pub splits_ask : (id : ℕ) (v : View) → Splits Holds id v v (view_of_ask v)
splits_ask id v = splits id v (view_of_ask v) (λ t f j. fits_plain t j (view_of_ask v) refl refl (IsPrefix-nil t.list) (IsPrefix-nil t.list) f.floor) refl

-- a seat gives its number away, with its places
pub splits_number : (id : ℕ) (v : View) → Splits Holds id v (without_number v) (view_of_number v)
splits_number id v s holds at =
    let t = holds.0 in
    let kept = holds.1 in
    let fit = kept.fits id v at in
    let w = without_number v in
    let left : Fits t id w = record {
      recorder = λ e. as_recorder t id v w refl refl refl refl (fit.recorder e);
      list = fit.list;
      joined = fit.joined;
      floor = fit.floor;
      number = λ n. absurd (false≢true n);
    } in
    let right : (j : ℕ) → Fits t j (view_of_number v) = λ j. record {
      recorder = λ e. absurd (false≢true e);
      list = IsPrefix-nil t.list;
      joined = IsPrefix-nil t.list;
      floor = omega arith;
      number = fit.number;
    } in
    let kept' = kept_set t t s.words s.views id w kept (λ j u ne there. kept.fits j u there) left (no_number s.views id w refl) kept.numbers in
    let new : HasNewNumber (set s.views id w) (view_of_number v) = λ j u there has_u has same.
    ⊎_elim
    (λ (x : (j ≡ id) × (w ≡ u)). false≢true (ap (λ (y : View). y.has_number) x.1 ∙ has_u))
    (λ (x : (j ≢ id) × (get_elem? s.views j ≡ some u)). x.0 (kept.apart j id u v x.1 at has_u has same))
    (at_set s.views id j w u there) in (
      t,
      subst (λ ws. IsKept t ws (set s.views id w ++ view_of_number v ∷ [])) (sym kept.word)
          (kept_snoc t (length t.list ∷ []) (set s.views id w) (view_of_number v) kept' right new),
    )

-- what stands behind the word once one more pass was opened
abbrev with_one_opened : Shared → Shared
with_one_opened t = record t { opened = t.opened + 1 }

live_later : (t : Shared) (n : ℕ) (known : List ℕ) (calls : List Call) → IsLive t n known calls → IsLive (with_one_opened t) n known calls
live_later t n known calls l = record { given = (let given = l.given in omega (arith, given)); live = l.live; places = l.places; failed = l.failed }

given_after_open : (t : Shared) → AreGivenOut t → AreGivenOut (with_one_opened t)
given_after_open t numbers = record {
  once = numbers.once;
  ended = λ n le. numbers.ended n (omega (arith, le));
  recorded = λ n le. numbers.recorded n (omega (arith, le));
  failed = λ n le. numbers.failed n (omega (arith, le));
}

-- the next number is nobody's
next_is_new : (t : Shared) (views : List View) (id : ℕ) (v w : View) → IsKept t (length t.list ∷ []) views → get_elem? views id ≡ some v → v.opened ≡ t.opened
    → (w.has_number ≡ true → v.has_number ≡ true) → w.number ≡ v.number → HasNewNumber (set views id w) (view_of_pass v)
next_is_new t views id v w kept at opened has number j u there has_u _ same =
    ⊎_elim
    (λ (x : (j ≡ id) × (w ≡ u)). let given = ((kept.fits id v at).number (has (ap (λ (y : View). y.has_number) x.1 ∙ has_u))).given in absurd (omega (arith, given, number, ap (λ (y : View). y.number) x.1, same, opened)))
    (λ (x : (j ≢ id) × (get_elem? views j ≡ some u)). let given = ((kept.fits j u x.1).number has_u).given in absurd (omega (arith, given, same, opened)))
    (at_set views id j w u there)

-- open_pass
pub splits_pass : (id : ℕ) (v : View) → v.records ≡ true → Splits Holds id v (with_next_number v) (view_of_pass v)
splits_pass id v is s holds at =
    let t = holds.0 in
    let kept = holds.1 in
    let fit = kept.fits id v at in
    let mine = fit.recorder is in
    let opened = mine.opened in
    let t' = with_one_opened t in
    let w = with_next_number v in
    let others : (j : ℕ) (u : View) → j ≢ id → get_elem? s.views j ≡ some u → Fits t' j u = λ j u ne there.
    let f = kept.fits j u there in record {
      recorder = λ r. absurd (ne ((f.recorder r).seat_is ∙ sym mine.seat_is));
      list = f.list;
      joined = f.joined;
      floor = f.floor;
      number = λ n. live_later t u.number u.places u.own_failed (f.number n);
    } in
    let left : Fits t' id w = record {
      recorder = λ _. record { seat_is = mine.seat_is; list = mine.list; opened = ap (λ n. n + 1) mine.opened; ended = mine.ended; failed = mine.failed };
      list = fit.list;
      joined = fit.joined;
      floor = fit.floor;
      number = λ n. live_later t v.number v.places v.own_failed (fit.number n);
    } in
    let right : (j : ℕ) → Fits t' j (view_of_pass v) = λ j. record {
      recorder = λ e. absurd (false≢true e);
      list = IsPrefix-nil t.list;
      joined = IsPrefix-nil t.list;
      floor = omega arith;
      number = λ _. record {
        given = omega (arith, opened);
        live = kept.numbers.ended v.opened (omega (arith, opened));
        places = sym (kept.numbers.recorded v.opened (omega (arith, opened)));
        failed = sym (kept.numbers.failed v.opened (omega (arith, opened)));
      };
    } in
    let kept' = kept_set t t' s.words s.views id w kept others left (own_number t s.words s.views id v w kept at (λ x. x) refl) (given_after_open t kept.numbers) in
    let new = next_is_new t s.views id v w (subst (λ ws. IsKept t ws s.views) kept.word kept) at opened (λ x. x) refl in (
      t',
      subst (λ ws. IsKept t' ws (set s.views id w ++ view_of_pass v ∷ [])) (sym kept.word)
          (kept_snoc t' (length t.list ∷ []) (set s.views id w) (view_of_pass v) kept' right new),
    )

-- the number of the one seat or of the other, or none
abbrev pub HasNumberOf : View → View → Type 0
HasNumberOf w v = (w.has_number ≡ true → v.has_number ≡ true) × (w.number ≡ v.number)

-- a seat takes in another, whose view is spent
pub joins : (id : ℕ) (v : View) (other : ℕ) (u both : View)
    → ((t : Shared) → Fits t id v → Fits t other u → Fits t id both) → HasNumberOf both v ⊎ HasNumberOf both u
    → Joins Holds id v other u both blank
joins id v other u both fit numbers s holds at apart there =
    let t = holds.0 in
    let kept : IsKept t (length t.list ∷ []) s.views = subst (λ ws. IsKept t ws s.views) holds.1.word holds.1 in
    let there' : get_elem? s.views other ≡ some u = ⊎_elim (λ (x : (other ≡ id) × (both ≡ u)). absurd (apart x.0)) (λ (x : (other ≢ id) × (get_elem? s.views other ≡ some u)). x.1) (at_set s.views id other both u there) in
    let spent = set s.views other blank in
    let kept1 : IsKept t (length t.list ∷ []) spent = kept_set t t _ s.views other blank kept (λ j x ne e. kept.fits j x e) (fits_blank t other) (no_number s.views other blank refl) kept.numbers in
    let at1 : get_elem? spent id ≡ some v = set_else s.views other id blank (λ e. apart (sym e)) ∙ at in
    let was : (j : ℕ) (x : View) → get_elem? spent j ≡ some x → x.has_number ≡ true → (j ≢ other) × (get_elem? s.views j ≡ some x) = λ j x e has.
    ⊎_elim (λ (y : (j ≡ other) × (blank ≡ x)). absurd (false≢true (ap (λ (z : View). z.has_number) y.1 ∙ has))) (λ (y : (j ≢ other) × (get_elem? s.views j ≡ some x)). y) (at_set s.views other j blank x e) in
    let own : HasOwnNumber spent id both = λ j x ne e has_x has_both same.
    let there1 = was j x e has_x in
    ⊎_elim
    (λ (y : HasNumberOf both v). ne (kept.apart j id x v there1.1 at has_x (y.0 has_both) (same ∙ y.1)))
    (λ (y : HasNumberOf both u). there1.0 (kept.apart j other x u there1.1 there' has_x (y.0 has_both) (same ∙ y.1)))
    numbers in
    let kept2 = kept_set t t _ spent id both kept1 (λ j x ne e. kept1.fits j x e) (fit t (kept.fits id v at) (kept.fits other u there')) own kept.numbers in (
      t,
      subst (λ ws. IsKept t ws (set (set s.views id both) other blank)) (sym holds.1.word)
          (subst (IsKept t (length t.list ∷ [])) (set_swap s.views other id blank both apart) kept2),
    )

-- a seat takes a number in, with its places
pub joins_number : (id : ℕ) (v : View) (other : ℕ) (u : View) → Joins Holds id v other u (with_number v u) blank
joins_number id v other u =
    joins id v other u (with_number v u)
    (λ t f g. record { recorder = λ e. as_recorder t id v (with_number v u) refl refl refl refl (f.recorder e); list = f.list; joined = f.joined; floor = f.floor; number = g.number })
    (inr (λ x. x, refl))

-- the join of learn
pub joins_note : (id : ℕ) (v : View) (other : ℕ) (u : View) → Joins Holds id v other u (with_note v u) blank
joins_note id v other u =
    joins id v other u (with_note v u)
    (λ t f g. record { recorder = λ e. as_recorder t id v (with_note v u) refl refl refl refl (f.recorder e); list = f.list; joined = g.list; floor = f.floor; number = f.number })
    (inl (λ x. x, refl))

-- the join of end_pass
pub joins_pass : (id : ℕ) (v : View) (other : ℕ) (u : View) → Joins Holds id v other u (with_pass v u) blank
joins_pass id v other u =
    joins id v other u (with_pass v u)
    (λ t f g. record { recorder = λ e. as_recorder t id v (with_pass v u) refl refl refl refl (f.recorder e); list = f.list; joined = g.list; floor = f.floor; number = g.number })
    (inr (λ x. x, refl))

-- the join of hear
pub joins_ask : (id : ℕ) (v : View) (other : ℕ) (u : View) → Joins Holds id v other u (with_ask v u) blank
joins_ask id v other u =
    joins id v other u (with_ask v u)
    (λ t f g. record { recorder = λ e. as_recorder t id v (with_ask v u) refl refl refl refl (f.recorder e); list = f.list; joined = f.joined; floor = g.floor; number = f.number })
    (inl (λ x. x, refl))

-- the table at the start
pub begins : Holds record { words = 0 ∷ []; homes = []; views = first_view ∷ [] }
begins = (t, record { word = refl; fits = fits; apart = apart; numbers = record { once = λ n. omega arith; ended = λ n le. refl; recorded = λ n le. refl; failed = λ n le. refl } })
  where
    t : Shared
    t = record { recorder = 0; list = []; opened = 0; ended = []; failed = [] }

    mine : Fits t 0 first_view
    mine = record {
      recorder = λ _. record { seat_is = refl; list = refl; opened = refl; ended = refl; failed = refl };
      list = IsPrefix-nil [];
      joined = IsPrefix-nil [];
      floor = omega arith;
      number = λ n. absurd (false≢true n);
    }

    fits : (seat : ℕ) (v : View) → get_elem? (first_view ∷ []) seat ≡ some v → Fits t seat v
    fits zero v e = subst (Fits t 0) (some-injective _ _ e) mine
    fits (suc seat) v e = absurd (some-ne-none v (sym e))

    apart : HaveOwnNumbers (first_view ∷ [])
    apart zero zero v w at_v at_w has_v has_w same = refl
    apart zero (suc j) v w at_v at_w has_v has_w same = absurd (some-ne-none w (sym at_w))
    apart (suc i) j v w at_v at_w has_v has_w same = absurd (some-ne-none v (sym at_v))
