-- Whole entries: what is written is read, what is read was written, and no payload begins another.
use Rattle.std.proofs.Common.{◌≡◌, ℕ, ◌+◌, ◌-◌, ◌<◌, ◌≤◌, true, List, [], ◌++◌, length, None, Result, Ok, Err, refl, sym, ap, subst, ◌∙◌, arith, IfOk}
use Rattle.std.specs.Prelude.{⊤}
use Rattle.cf_base.proofs.Common.{leb-true, le-leb, length-append, append-nil, take_at, nil_from_length}
use Rattle.cf_base.specs.declared.calendar.Day.{Day}
use Rattle.cf_base.specs.Common.{is_day}
use Rattle.cf_calls.specs.declared.acts.Act.{Act}
use Rattle.cf_calls.specs.declared.acts.Act.TheVariants.{Asset, Issue, PayDue, Lease}
use Rattle.cf_calls.specs.declared.acts.AssetAct.TheVariants.{Donate, Dispose}
use Rattle.cf_calls.specs.declared.entry.Drawn.{Drawn}
use Rattle.cf_calls.specs.declared.entry.Entry.{Entry}
use Rattle.cf_calls.specs.Common.{is_key, HasDrawn, IsActInForm, IsDrawn, IsPaymentNumber, IsEntryInForm, draws_of, kind_of}
use Rattle.cf_calls.specs.declared.kind.ActKind.{ActKind}
use Rattle.cf_calls.specs.declared.kind.ActKind.TheVariants as kind
use Rattle.cf_calls.specs.declared.kind.Draws.{Draws}
use Rattle.cf_calls.specs.declared.kind.Draws.TheVariants.{Nothing, Number, Both, Payment}
use Rattle.cf_codec_fields.specs.Formats.{Format}
use Rattle.cf_codec_fields.specs.Fields.{half, word, key, day}
use Rattle.cf_codec_fields.specs.Kinds.{kind, kind_in, is_of}
use Rattle.cf_codec.specs.Acts.{act_for}
use Rattle.cf_codec.specs.Entries.{may_be_on, on_for, none_drawn, one_drawn, two_drawn, payment_drawn, drawn_as, drawn_for, entry, entry_in, payload, placed, read_of, HasPayload, BeginsWith, IsDrawnShort, IsOf}
use Rattle.cf_codec.specs.declared.fault.CodecRefused.{CodecRefused}
use Rattle.cf_codec.specs.Answers.{Answers}
use Rattle.cf_codec_fields.proofs.Exact.{IsBytes, IsWhole, Any, step, last, same, whole, ok_is, kept-exact}
use Rattle.cf_codec_fields.proofs.FieldsExact.{half-exact, word-exact, day-exact, key-exact}
use Rattle.cf_codec.proofs.ActsExact.{kind-exact, ActForm, IsEarly, act-exact}

-- ---- the day

on-exact : (k : ActKind) → IsWhole (on_for k) (λ d. (is_day d ≡ true) × (may_be_on k d ≡ true))
on-exact k = kept-exact (may_be_on k) day (λ d. is_day d ≡ true) day-exact

-- ---- the drawn numbers

abbrev IsNone : Drawn → Type 0
IsNone d = (d.number ≡ 0) × (d.second ≡ 0)

none-exact : IsWhole none_drawn IsNone
none-exact =
    same none_drawn Any _ _ (whole none_drawn IsNone Any (last (record { number = 0; second = 0 }) IsNone (refl, refl) (λ d known. λ i. record { number = sym known.0 i; second = sym known.1 i })))
    (λ d known fits form. (form, tt)) (λ d known fits form. form.0)

abbrev IsOne : Drawn → Type 0
IsOne d = d.second ≡ 0

one-exact : IsWhole one_drawn IsOne
one-exact =
    same one_drawn Any _ _
    (whole one_drawn IsOne _ (step (λ d. d.number) word _ Any IsOne _ word-exact (λ number fits form.
    last (record { number = number; second = 0 }) _ (refl, refl) (λ d known. λ i. record { number = known.1 i; second = sym known.0 i }))))
    (λ d known fits form. (form, (tt, tt))) (λ d known fits form. form.0)

two-exact : IsWhole two_drawn Any
two-exact =
    same two_drawn Any _ _
    (step (λ d. d.number) word _ Any Any _ word-exact (λ number fits form.
    step (λ d. d.second) word _ Any _ _ word-exact (λ second fits form.
    last (record { number = number; second = second }) _ ((tt, refl), refl) (λ d known. λ i. record { number = known.0.1 i; second = known.1 i }))))
    (λ d known fits form. (tt, (tt, tt))) (λ d known fits form. tt)

abbrev IsPayment : Drawn → Type 0
IsPayment d = (d.second ≡ 0) × (d.number < 65536)

payment-exact : IsWhole payment_drawn IsPayment
payment-exact =
    same payment_drawn Any _ _
    (whole payment_drawn IsOne _ (step (λ d. d.number) half _ Any IsOne _ half-exact (λ number fits form.
    last (record { number = number; second = 0 }) _ (refl, refl) (λ d known. λ i. record { number = known.1 i; second = sym known.0 i }))))
    (λ d known fits form. (form.0, (tt, tt))) (λ d known fits form. (form.0, fits.0))

abbrev DrawnForm : Act → Drawn → Type 0
DrawnForm a d = IsDrawn a d × IsPaymentNumber a d

abbrev FormAs : Draws → Drawn → Type 0
FormAs k d = HasDrawn k d × IsDrawnShort k d

-- one of these formats
drawn_by : (f : Format Drawn) (Form Other : Drawn → Type 0) → IsWhole f Form → ((d : Drawn) → Other d → Form d) → ((d : Drawn) → Form d → Other d) → IsWhole f Other
drawn_by f Form Other exact to from = same f Any Form Other exact (λ d known fits form. to d form) (λ d known fits form. from d form)

as-exact : (k : Draws) → IsWhole (drawn_as k) (FormAs k)
as-exact Nothing = drawn_by none_drawn IsNone (FormAs Nothing) none-exact (λ d form. form.0) (λ d form. (form, tt))
as-exact Number = drawn_by one_drawn IsOne (FormAs Number) one-exact (λ d form. form.0) (λ d form. (form, tt))
as-exact Both = drawn_by two_drawn Any (FormAs Both) two-exact (λ d form. tt) (λ d form. (tt, tt))
as-exact Payment = drawn_by payment_drawn IsPayment (FormAs Payment) payment-exact (λ d form. form) (λ d form. form)

-- a debt payment's number is short, and no other call's need be
pub short_drawn : (a : Act) (d : Drawn) → IsPaymentNumber a d → IsDrawnShort (draws_of a) d
short_drawn (PayDue x) d few = few
short_drawn (Asset (Donate x)) d few = tt
short_drawn (Asset (Dispose x)) d few = tt
short_drawn _ d few = tt

payment_number : (a : Act) (d : Drawn) → IsDrawnShort (draws_of a) d → IsPaymentNumber a d
payment_number (PayDue x) d few = few
payment_number _ d few = tt

drawn-exact : (a : Act) → IsWhole (drawn_for a) (DrawnForm a)
drawn-exact a =
    drawn_by (drawn_for a) (FormAs (draws_of a)) (DrawnForm a) (as-exact (draws_of a))
    (λ d form. (form.0, short_drawn a d form.1)) (λ d form. (form.0, payment_number a d form.1))

-- ---- entries

day_early : (k : ActKind) (d : Day) → may_be_on k d ≡ true → IsEarly k d
day_early k d may = (λ e. leb-true d.day 28 (subst (λ (j : ActKind). may_be_on j d ≡ true) e may), λ e. leb-true d.day 28 (subst (λ (j : ActKind). may_be_on j d ≡ true) e may))

may_be : (d : Day) (a : Act) → IsActInForm d a → may_be_on (kind_of a) d ≡ true
may_be d (Issue x) form = le-leb d.day 28 form.day
may_be d (Lease x) form = le-leb d.day 28 form.terms.day
may_be d _ form = refl

abbrev NoAfter : Entry → Type 0
NoAfter e = e.change.after ≡ None

-- every kind is of version 2
of_two : (k : ActKind) → is_of 2 k ≡ true
of_two kind.Lease = refl
of_two _ = refl

pub is_of_two : (e : Entry) → IsOf 2 e
is_of_two e = of_two (kind_of e.change.act)

abbrev pub InForm : ℕ → Entry → Type 0
InForm version e = IsEntryInForm e × IsOf version e

pub entry-exact : (version : ℕ) → IsWhole (entry_in version) (InForm version)
entry-exact version =
    same (entry_in version) Any _ _
    (whole (entry_in version) NoAfter _
    (step (λ e. kind_of e.change.act) (kind_in version) _ (λ k. ⊤ × (is_of version k ≡ true)) NoAfter _ (kept-exact (is_of version) kind Any kind-exact) (λ k fits form.
    step (λ e. e.change.desk) half _ Any _ _ half-exact (λ desk fits form.
    step (λ e. e.change.key) key _ (λ k. is_key k ≡ true) _ _ key-exact (λ key fits form.
    step (λ e. e.change.on) (on_for k) _ (λ d. (is_day d ≡ true) × (may_be_on k d ≡ true)) _ _ (on-exact k) (λ on fits form.
    step (λ e. e.change.act) (act_for k on) _ (λ a. (k ≡ kind_of a) × ActForm on a) _ _ (whole (act_for k on) (λ a. k ≡ kind_of a) (ActForm on) (act-exact k on (day_early k on form.1))) (λ act fits acts.
    step (λ e. e.drawn) (drawn_for act) _ (DrawnForm act) _ _ (drawn-exact act) (λ drawn fits form.
    last (record { change = record { desk = desk; key = key; on = on; after = None; act = act }; drawn = drawn }) _ ((((((refl, acts.0), refl), refl), refl), refl), refl) (λ e known. λ i. record { change = record { desk = known.0.0.0.0.1 i; key = known.0.0.0.1 i; on = known.0.0.1 i; after = sym known.0.0.0.0.0.0 i; act = known.0.1 i }; drawn = known.1 i })))))))))
    (λ e known fits form. (form.0.no_after, ((tt, form.1), (tt, (form.0.change.key, ((form.0.change.on, may_be e.change.on e.change.act form.0.change.act), ((refl, (form.0.change.act, form.0.limits)), ((form.0.drawn, form.0.payment), tt))))))))
    (λ e known fits form. (
      record {
        change = record { key = form.1.1.1.0; on = form.1.1.1.1.0.0; act = form.1.1.1.1.1.0.1.0 };
        no_after = form.0;
        limits = form.1.1.1.1.1.0.1.1;
        drawn = form.1.1.1.1.1.1.0.0;
        payment = form.1.1.1.1.1.1.0.1;
      },
      form.1.0.1,
    ))

-- an entry is read back from its payload, whatever follows
pub reads_back : (version : ℕ) (e : Entry) (rest : List ℕ) → HasPayload e → IsOf version e → read_of version (payload e ++ rest) ≡ Ok (e, length (payload e))
unfolding payload read_of
reads_back version e rest has is =
    let count : length (entry.bytes e ++ rest) - length rest ≡ length (entry.bytes e) = omega (arith, length-append (entry.bytes e) rest) in
    rw ((entry-exact version).back e rest tt has.fits (has.form, is)) (ap (λ (n : ℕ). Ok (e, n)) count)

placed_ok : (bytes : List ℕ) (r : Result (Entry × List ℕ) ℕ) (e : Entry) (n : ℕ) → placed bytes r ≡ Ok (e, n) → (rest : List ℕ) × (r ≡ Ok (e, rest)) × (n ≡ length bytes - length rest)
placed_ok bytes (Ok x) e n p =
    let same = ok_is (x.0, length bytes - length x.1) (e, n) p in
    (x.1, ap (λ (y : Entry × ℕ). Ok (y.0, x.1)) same, sym (ap (λ (y : Entry × ℕ). y.1) same))
placed_ok bytes (Err left) e n p = absurd cc

-- what is read is an entry whose payload the first bytes are
pub was_written : (version : ℕ) (bytes : List ℕ) (e : Entry) (n : ℕ) → IsBytes bytes → read_of version bytes ≡ Ok (e, n) → BeginsWith bytes e n × IsOf version e
unfolding payload read_of
was_written version bytes e n are p =
    let q = placed_ok bytes ((entry_in version).read bytes) e n p in
    let one = (entry-exact version).only bytes e q.0 are q.1 in
    let count : length bytes ≡ length (entry.bytes e) + length q.0 = ap length one.0.parts ∙ length-append (entry.bytes e) q.0 in
    let size : n ≡ length (entry.bytes e) = omega (arith, q.2) in
    (record { entry = record { form = one.3.0; fits = one.2 }; front = rw one.0.parts (take_at (entry.bytes e) q.0 n (sym size)); count = size }, one.3.1)

-- no payload begins another, and an entry has one payload
pub no_prefix : (a b : Entry) (more : List ℕ) → HasPayload a → HasPayload b → payload b ≡ payload a ++ more → (a ≡ b) × (more ≡ [])
no_prefix a b more has has' e =
    let one = reads_back 2 a more has (is_of_two a) in
    let two = reads_back 2 b [] has' (is_of_two b) in
    let same : read_of 2 (payload b ++ []) ≡ read_of 2 (payload a ++ more) = ap (read_of 2) (append-nil (payload b) ∙ e) in
    let p = ok_is (a, length (payload a)) (b, length (payload b)) (sym one ∙ sym same ∙ two) in
    let lengths : length (payload a) ≡ length (payload b) = ap (λ (x : Entry × ℕ). x.1) p in
    let count : length (payload b) ≡ length (payload a) + length more = ap length e ∙ length-append (payload a) more in
    (ap (λ (x : Entry × ℕ). x.0) p, nil_from_length more (omega arith))

-- the bytes that are left are some of those there were
pub rest_within : (version : ℕ) (bytes : List ℕ) (e : Entry) (rest : List ℕ) → IsBytes bytes → (entry_in version).read bytes ≡ Ok (e, rest) → length rest ≤ length bytes
rest_within version bytes e rest are p =
    let one = (entry-exact version).only bytes e rest are p in
    let count : length bytes ≡ length (entry.bytes e) + length rest = ap length one.0.parts ∙ length-append (entry.bytes e) rest in
    omega arith

pub left_within : (version : ℕ) (bytes : List ℕ) (left : ℕ) → IsBytes bytes → (entry_in version).read bytes ≡ Err left → left ≤ length bytes
left_within version bytes left are p = (entry-exact version).left bytes left are p

-- an answer of the reader, with what it says of the bytes
pub answer_found : (version : ℕ) (bytes : List ℕ) (r : Result (Entry × ℕ) CodecRefused) → IsBytes bytes → Answers r (read_of version bytes) → IfOk r (λ x. BeginsWith bytes x.0 x.1)
answer_found version bytes (Ok x) are p = (was_written version bytes x.0 x.1 are p).0
answer_found version bytes (Err e) are p = tt

pub answer_of : (version : ℕ) (bytes : List ℕ) (r : Result (Entry × ℕ) CodecRefused) → IsBytes bytes → Answers r (read_of version bytes) → IfOk r (λ x. IsOf version x.0)
answer_of version bytes (Ok x) are p = (was_written version bytes x.0 x.1 are p).1
answer_of version bytes (Err e) are p = tt

pub answer_only : (version : ℕ) (bytes : List ℕ) (r : Result (Entry × ℕ) CodecRefused) (e : Entry) (rest : List ℕ) → Answers r (read_of version bytes) → HasPayload e → IsOf version e → bytes ≡ payload e ++ rest → Answers r (Ok (e, length (payload e)))
answer_only version bytes r e rest p has is parts = subst (λ (x : Result (Entry × ℕ) ℕ). Answers r x) (ap (read_of version) parts ∙ reads_back version e rest has is) p
