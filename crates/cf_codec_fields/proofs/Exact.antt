-- What it means that a format is exact: what is written is read, and what is read was written.
-- Formats that are put together from exact formats are exact.
use Rattle.std.proofs.Common.{◌≡◌, ℕ, zero, suc, ◌+◌, ◌*◌, ◌%◌, ◌^◌, ◌<◌, ◌≤◌, Bool, true, false, cond, ltb, leb, List, [], ◌∷◌, ◌++◌, length, get_or, take, drop, Option, Some, None, Result, Ok, Err, refl, sym, ap, subst, ◌∙◌, append_assoc, arith, ◌⊎◌, inl, inr, w8, w16, w32, w64}
use Rattle.std.specs.Prelude.{⊤}
use Rattle.cf_base.proofs.Common.{AllByRecursion, Width, byte_len, from_be_bytes, to_be_bytes, cases_lt, ltb-false, le-ltb, leb-true, and_parts, take_at, drop_at, take-append-drop, length-append, length-take, get_or-drop, get_or-take, get_or_past, be_bytes_2, be_bytes_4, be_bytes_8, from_be_bytes-to_be_bytes_2, from_be_bytes-to_be_bytes_4, from_be_bytes-to_be_bytes_8}
use Rattle.cf_codec_fields.specs.Formats.{Format, and_then, number, number_bytes, number_at, or_left, converted, passing, kept, each_bytes, each_fits, each_at, is_between, list, field, ◌>>=◌, done}

abbrev pub IsBytes : List ℕ → Type 0
IsBytes bytes = (i : ℕ) → get_or bytes i 0 < 256

pub IsBytes-drop : (n : ℕ) (bytes : List ℕ) → IsBytes bytes → IsBytes (drop n bytes)
IsBytes-drop n bytes h i = rw get_or-drop (h (n + i))

IsBytes-take : (n : ℕ) (bytes : List ℕ) → IsBytes bytes → IsBytes (take n bytes)
IsBytes-take n bytes h i =
    elim (cases_lt i n) [
      | inl lt ↦ rw (get_or-take n bytes i 0 lt) (h i)
      | inr le ↦ rw (get_or_past (take n bytes) i 0 (omega (arith, length-take n bytes))) (omega arith)
    ]

-- what a reader took from the front
pub record Takes (bytes text rest : List ℕ) : Type 0 where
  pub parts : bytes ≡ text ++ rest
  pub rest_fits : IsBytes rest

pub Takes-then : (a x b y c : List ℕ) → Takes a x b → Takes b y c → Takes a (x ++ y) c
Takes-then a x b y c p q = record { parts = p.parts ∙ ap (λ (t : List ℕ). x ++ t) q.parts ∙ sym (append_assoc x y c); rest_fits = q.rest_fits }

-- A format is exact for the values of which Known and Form hold: Known is what earlier fields say
-- of the value, and Form is what its own fields say.
pub record IsExact {R : Type 0} (f : Format R) (Known Form : R → Type 0) : Type 0 where
  pub back : (r : R) (rest : List ℕ) → Known r → f.fits r → Form r → f.read (f.bytes r ++ rest) ≡ Ok (r, rest)
  pub only : (bytes : List ℕ) (r : R) (rest : List ℕ) → IsBytes bytes → f.read bytes ≡ Ok (r, rest) → Takes bytes (f.bytes r) rest × Known r × f.fits r × Form r
  pub left : (bytes : List ℕ) (n : ℕ) → IsBytes bytes → f.read bytes ≡ Err n → n ≤ length bytes

abbrev pub Any : {R : Type 0} → R → Type 0
Any r = ⊤

-- an exact format of whole values
abbrev pub IsWhole : {R : Type 0} → Format R → (R → Type 0) → Type 0
IsWhole f Form = IsExact f Any Form

-- ---- readings

abbrev given : {A : Type 0} → A → Result A ℕ
given a = Ok a

pub ok_is : {A : Type 0} (a b : A) → given a ≡ given b → a ≡ b
ok_is a b e = cc

-- the value and the rest of a reading that did not fail
pub then_ok : {A B : Type 0} (reading : Result (A × List ℕ) ℕ) (next : A → List ℕ → Result (B × List ℕ) ℕ) (b : B × List ℕ) → and_then reading next ≡ Ok b → (a : A) × (rest : List ℕ) × (reading ≡ Ok (a, rest)) × (next a rest ≡ Ok b)
then_ok (Ok x) next b e = (x.0, x.1, refl, e)
then_ok (Err left) next b e = absurd cc

-- where a reading failed
pub then_err : {A B : Type 0} (reading : Result (A × List ℕ) ℕ) (next : A → List ℕ → Result (B × List ℕ) ℕ) (n : ℕ) → and_then reading next ≡ Err n → (reading ≡ Err n) ⊎ ((a : A) × (rest : List ℕ) × (reading ≡ Ok (a, rest)) × (next a rest ≡ Err n))
then_err (Ok x) next n e = inr (x.0, x.1, refl, e)
then_err (Err left) next n e = inl cc

-- ---- fields one after another

pub step : {R A : Type 0} (get : R → A) (f : Format A) (next : A → Format R) (Form : A → Type 0) (Known : R → Type 0) (More : A → R → Type 0)
    → IsWhole f Form → ((a : A) → f.fits a → Form a → IsExact (next a) (λ r. Known r × (a ≡ get r)) (More a))
    → IsExact (field get f >>= next) Known (λ r. Form (get r) × More (get r) r)
step {R} {A} get f next Form Known More first others = record {
  back = λ r rest known fits form.
      let one = first.back (get r) ((next (get r)).bytes r ++ rest) tt fits.0 form.0 in
      let two = (others (get r) fits.0 form.0).back r rest (known, refl) fits.1 form.1 in
      ap (field get f >>= next).read (append_assoc (f.bytes (get r)) ((next (get r)).bytes r) rest) ∙ rw one two;
  only = λ bytes r rest are e.
      let s = then_ok (f.read bytes) (λ a rest. (next a).read rest) (r, rest) e in
      let one = first.only bytes s.0 s.1 are s.2 in
      let two = (others s.0 one.2 one.3).only s.1 r rest one.0.rest_fits s.3 in
      let same : s.0 ≡ get r = two.1.1 in
      let both = Takes-then bytes (f.bytes s.0) s.1 ((next s.0).bytes r) rest one.0 two.0 in (
        subst (λ (a : A). Takes bytes (f.bytes a ++ (next a).bytes r) rest) same both,
        two.1.0,
        (subst (λ (a : A). f.fits a) same one.2, subst (λ (a : A). (next a).fits r) same two.2),
        (subst (λ (a : A). Form a) same one.3, subst (λ (a : A). More a r) same two.3),
      );
  left = λ bytes n are e.
      elim (then_err (f.read bytes) (λ a rest. (next a).read rest) n e) [
        | inl here ↦ first.left bytes n are here
        | inr later ↦
            let one = first.only bytes later.0 later.1 are later.2 in
            let below = (others later.0 one.2 one.3).left later.1 n one.0.rest_fits later.3 in
            let whole : length bytes ≡ length (f.bytes later.0) + length later.1 = ap length one.0.parts ∙ length-append (f.bytes later.0) later.1 in
            omega arith
      ];
}

pub last : {R : Type 0} (made : R) (Known : R → Type 0) → Known made → ((r : R) → Known r → made ≡ r) → IsExact (done made) Known Any
last {R} made Known known only = record {
  back = λ r rest k fits form. ap (λ (x : R). Ok (x, rest)) (only r k);
  only = λ bytes r rest are e.
      let p = ok_is (made, bytes) (r, rest) e in
      subst (λ (x : R × List ℕ). Takes bytes [] x.1 × Known x.0 × ⊤ × ⊤) p (record { parts = refl; rest_fits = are }, known, tt, tt);
  left = λ bytes n are e. absurd cc;
}

-- the same format, for what comes to the same
pub same : {R : Type 0} (f : Format R) (Known Form Other : R → Type 0) → IsExact f Known Form
    → ((r : R) → Known r → f.fits r → Other r → Form r) → ((r : R) → Known r → f.fits r → Form r → Other r) → IsExact f Known Other
same f Known Form Other exact to from = record {
  back = λ r rest known fits form. exact.back r rest known fits (to r known fits form);
  only = λ bytes r rest are e. let p = exact.only bytes r rest are e in (p.0, p.1, p.2, from r p.1 p.2 p.3);
  left = exact.left;
}

-- what is known is a part of the form
pub whole : {R : Type 0} (f : Format R) (Known Form : R → Type 0) → IsExact f Known Form → IsWhole f (λ r. Known r × Form r)
whole f Known Form exact = record {
  back = λ r rest known fits form. exact.back r rest form.0 fits form.1;
  only = λ bytes r rest are e. let p = exact.only bytes r rest are e in (p.0, tt, p.2, (p.1, p.3));
  left = exact.left;
}

-- ---- numbers

-- a width whose bytes give the number back
pub record IsWide (w : Width) : Type 0 where
  pub len : (n : ℕ) → length (to_be_bytes w n) ≡ byte_len w
  pub back : (bytes : List ℕ) → length bytes ≡ byte_len w → IsBytes bytes → to_be_bytes w (from_be_bytes w bytes) ≡ bytes
  pub again : (n : ℕ) → n < 2 ^ (8 * byte_len w) → from_be_bytes w (to_be_bytes w n) ≡ n
  pub below : (bytes : List ℕ) → IsBytes bytes → from_be_bytes w bytes < 2 ^ (8 * byte_len w)

one_byte : (bytes : List ℕ) → length bytes ≡ 1 → IsBytes bytes → to_be_bytes w8 (from_be_bytes w8 bytes) ≡ bytes
one_byte [] e are = absurd (omega arith)
one_byte (b ∷ []) e are = let small : b % 256 ≡ b = omega (arith, are 0) in ap (λ (x : ℕ). x ∷ []) small
one_byte (b ∷ c ∷ bytes) e are = absurd (omega arith)

pub wide8 : IsWide w8
wide8 = record {
  len = λ n. refl;
  back = one_byte;
  again = λ n lt. omega arith;
  below = λ bytes are. omega (arith, are 0);
}

pub wide16 : IsWide w16
wide16 = record {
  len = λ n. refl;
  back = λ bytes len are. be_bytes_2 bytes _ len are refl;
  again = λ n lt. from_be_bytes-to_be_bytes_2 n lt;
  below = λ bytes are. omega (arith, are 0, are 1);
}

pub wide32 : IsWide w32
wide32 = record {
  len = λ n. refl;
  back = λ bytes len are. be_bytes_4 bytes _ len are refl;
  again = λ n lt. from_be_bytes-to_be_bytes_4 n lt;
  below = λ bytes are. omega (arith, are 0, are 1, are 2, are 3);
}

pub wide64 : IsWide w64
wide64 = record {
  len = λ n. refl;
  back = λ bytes len are. be_bytes_8 bytes _ len are refl;
  again = λ n lt. from_be_bytes-to_be_bytes_8 n lt;
  below = λ bytes are. omega (arith, are 0, are 1, are 2, are 3, are 4, are 5, are 6, are 7);
}

-- a test that did not fail, and one that did
guard_ok : {A : Type 0} (b : Bool) (d : ℕ) (x y : A × List ℕ) → cond b (Err d) (Ok x) ≡ Ok y → (b ≡ false) × (x ≡ y)
guard_ok true d x y e = absurd cc
guard_ok false d x y e = (refl, cc)

guard_err : {A : Type 0} (b : Bool) (d n : ℕ) (x : A × List ℕ) → cond b (Err d) (Ok x) ≡ Err n → d ≡ n
guard_err true d n x e = cc
guard_err false d n x e = absurd cc

pub number-exact : (w : Width) → IsWide w → IsWhole (number w) Any
unfolding number_at number_bytes
number-exact w wide = record {
  back = λ n rest known fits form.
      let len = wide.len n in
      let long : ltb (length (to_be_bytes w n ++ rest)) (byte_len w) ≡ false = le-ltb _ _ (omega (arith, length-append (to_be_bytes w n) rest)) in
      rw (long, take_at (to_be_bytes w n) rest (byte_len w) len, drop_at (to_be_bytes w n) rest (byte_len w) len, wide.again n fits) refl;
  only = λ bytes n rest are e.
      let g = guard_ok (ltb (length bytes) (byte_len w)) (length bytes) (from_be_bytes w (take (byte_len w) bytes), drop (byte_len w) bytes) (n, rest) e in
      let long : byte_len w ≤ length bytes = ltb-false _ _ g.0 in
      let front : to_be_bytes w (from_be_bytes w (take (byte_len w) bytes)) ≡ take (byte_len w) bytes = wide.back (take (byte_len w) bytes) (omega (arith, length-take (byte_len w) bytes)) (IsBytes-take (byte_len w) bytes are) in
      let parts : bytes ≡ to_be_bytes w (from_be_bytes w (take (byte_len w) bytes)) ++ drop (byte_len w) bytes = rw front (sym (take-append-drop (byte_len w) bytes)) in
      subst (λ (x : ℕ × List ℕ). Takes bytes (to_be_bytes w x.0) x.1 × ⊤ × (x.0 < 2 ^ (8 * byte_len w)) × ⊤) g.1
      (record { parts = parts; rest_fits = IsBytes-drop (byte_len w) bytes are }, tt, wide.below (take (byte_len w) bytes) (IsBytes-take (byte_len w) bytes are), tt);
  left = λ bytes n are e.
      let same = guard_err (ltb (length bytes) (byte_len w)) (length bytes) n (from_be_bytes w (take (byte_len w) bytes), drop (byte_len w) bytes) e in
      omega arith;
}

-- ---- fields that are written as others

left_ok : {A : Type 0} (o : Option A) (rest : List ℕ) (left : ℕ) (a : A) (after : List ℕ) → or_left o rest left ≡ Ok (a, after) → (o ≡ Some a) × (rest ≡ after)
left_ok None rest left a after e = absurd cc
left_ok (Some b) rest left a after e =
    let p = ok_is (b, rest) (a, after) e in
    (ap (λ (x : _ × List ℕ). Some x.0) p, ap (λ (x : _ × List ℕ). x.1) p)

left_err : {A : Type 0} (o : Option A) (rest : List ℕ) (left n : ℕ) → or_left o rest left ≡ Err n → left ≡ n
left_err None rest left n e = cc
left_err (Some b) rest left n e = absurd cc

pub converted-exact : {A B : Type 0} (value : A → Option B) (code : B → A) (f : Format A) (Form : A → Type 0) (Other : B → Type 0) → IsWhole f Form
    → ((b : B) → f.fits (code b) → Other b → (value (code b) ≡ Some b) × Form (code b))
    → ((a : A) (b : B) → f.fits a → Form a → value a ≡ Some b → (code b ≡ a) × Other b)
    → IsWhole (converted value code f) Other
converted-exact {A} {B} value code f Form Other exact to from = record {
  back = λ b rest known fits form.
      let t = to b fits form in
      let one = exact.back (code b) rest tt fits t.1 in
      rw (one, t.0) refl;
  only = λ bytes b rest are e.
      let s = then_ok (f.read bytes) (λ a rest. or_left (value a) rest (length bytes)) (b, rest) e in
      let one = exact.only bytes s.0 s.1 are s.2 in
      let p = left_ok (value s.0) s.1 (length bytes) b rest s.3 in
      let q = from s.0 b one.2 one.3 p.0 in
      (rw q.0 (subst (λ (r : List ℕ). Takes bytes (f.bytes s.0) r) p.1 one.0), tt, subst (λ (a : A). f.fits a) (sym q.0) one.2, q.1);
  left = λ bytes n are e.
      elim (then_err (f.read bytes) (λ a rest. or_left (value a) rest (length bytes)) n e) [
        | inl here ↦ exact.left bytes n are here
        | inr later ↦ let same = left_err (value later.0) later.1 (length bytes) n later.3 in omega arith
      ];
}

passing_true : {A : Type 0} (b : Bool) (a : A) → b ≡ true → cond b (Some a) None ≡ Some a
passing_true true a e = refl
passing_true false a e = absurd cc

passing_some : {A : Type 0} (b : Bool) (a c : A) → cond b (Some a) None ≡ Some c → (c ≡ a) × (b ≡ true)
passing_some true a c e = (cc, refl)
passing_some false a c e = absurd cc

pub kept-exact : {A : Type 0} (test : A → Bool) (f : Format A) (Form : A → Type 0) → IsWhole f Form → IsWhole (kept test f) (λ a. Form a × (test a ≡ true))
kept-exact {A} test f Form exact =
    converted-exact (passing test) (λ a. a) f Form (λ a. Form a × (test a ≡ true)) exact
    (λ a fits form. (passing_true (test a) a form.1, form.0))
    (λ a b fits form e. let p = passing_some (test a) a b e in (p.0, (subst (λ (x : A). Form x) (sym p.0) form, subst (λ (x : A). test x ≡ true) (sym p.0) p.1)))

-- ---- lists

each_back : {A : Type 0} (f : Format A) (Form : A → Type 0) → IsWhole f Form → (xs : List A) (rest : List ℕ) → each_fits f xs → AllByRecursion Form xs → each_at f (length xs) (each_bytes f xs ++ rest) ≡ Ok (xs, rest)
unfolding each_fits each_at each_bytes
each_back f Form exact [] rest fits form = refl
each_back f Form exact (x ∷ xs) rest fits form =
    let one = exact.back x (each_bytes f xs ++ rest) tt fits.0 form.0 in
    let others = each_back f Form exact xs rest fits.1 form.1 in
    ap (each_at f (suc (length xs))) (append_assoc (f.bytes x) (each_bytes f xs) rest) ∙ rw (one, others) refl

each_only : {A : Type 0} (f : Format A) (Form : A → Type 0) → IsWhole f Form → (n : ℕ) (bytes : List ℕ) (xs : List A) (rest : List ℕ) → IsBytes bytes → each_at f n bytes ≡ Ok (xs, rest)
    → Takes bytes (each_bytes f xs) rest × (length xs ≡ n) × each_fits f xs × AllByRecursion Form xs
unfolding each_fits each_at each_bytes
each_only {A} f Form exact zero bytes xs rest are e =
    subst (λ (y : List A × List ℕ). Takes bytes (each_bytes f y.0) y.1 × (length y.0 ≡ 0) × each_fits f y.0 × AllByRecursion Form y.0) (ok_is ([], bytes) (xs, rest) e) (record { parts = refl; rest_fits = are }, refl, tt, tt)
each_only {A} f Form exact (suc n) bytes xs rest are e =
    let s = then_ok (f.read bytes) (λ x rest. and_then (each_at f n rest) (λ xs after. Ok (x ∷ xs, after))) (xs, rest) e in
    let t = then_ok (each_at f n s.1) (λ xs after. Ok (s.0 ∷ xs, after)) (xs, rest) s.3 in
    let one = exact.only bytes s.0 s.1 are s.2 in
    let others = each_only f Form exact n s.1 t.0 t.1 one.0.rest_fits t.2 in
    let both = Takes-then bytes (f.bytes s.0) s.1 (each_bytes f t.0) t.1 one.0 others.0 in
    subst (λ (y : List A × List ℕ). Takes bytes (each_bytes f y.0) y.1 × (length y.0 ≡ suc n) × each_fits f y.0 × AllByRecursion Form y.0) (ok_is (s.0 ∷ t.0, t.1) (xs, rest) t.3) (both, ap suc others.1, (one.2, others.2), (one.3, others.3))

each_left : {A : Type 0} (f : Format A) (Form : A → Type 0) → IsWhole f Form → (n : ℕ) (bytes : List ℕ) (m : ℕ) → IsBytes bytes → each_at f n bytes ≡ Err m → m ≤ length bytes
unfolding each_fits each_at each_bytes
each_left f Form exact zero bytes m are e = absurd cc
each_left f Form exact (suc n) bytes m are e =
    elim (then_err (f.read bytes) (λ x rest. and_then (each_at f n rest) (λ xs after. Ok (x ∷ xs, after))) m e) [
      | inl here ↦ exact.left bytes m are here
      | inr later ↦
          let one = exact.only bytes later.0 later.1 are later.2 in
          let shorter : length bytes ≡ length (f.bytes later.0) + length later.1 = ap length one.0.parts ∙ length-append (f.bytes later.0) later.1 in
          elim (then_err (each_at f n later.1) (λ xs after. Ok (later.0 ∷ xs, after)) m later.3) [
            | inl there ↦ let below = each_left f Form exact n later.1 m one.0.rest_fits there in omega arith
            | inr never ↦ absurd cc
          ]
    ]

pub list-exact : {A : Type 0} (least most : ℕ) (f : Format A) (Form : A → Type 0) → most < 65536 → IsWhole f Form → IsWhole (list least most f) (λ xs. (is_between least most (length xs) ≡ true) × AllByRecursion Form xs)
list-exact least most f Form few exact =
    let count = kept-exact (is_between least most) (number w16) Any (number-exact w16 wide16) in
    record {
      back = λ xs rest known fits form.
          let most_is : length xs ≤ most = leb-true (length xs) most (and_parts (leb least (length xs)) (leb (length xs) most) form.0).1 in
          let one = count.back (length xs) (each_bytes f xs ++ rest) tt (omega arith) (tt, form.0) in
          let others = each_back f Form exact xs rest fits form.1 in
          ap (list least most f).read (append_assoc (number_bytes w16 (length xs)) (each_bytes f xs) rest) ∙ rw (one, others) refl;
      only = λ bytes xs rest are e.
          let s = then_ok ((kept (is_between least most) (number w16)).read bytes) (λ n rest. each_at f n rest) (xs, rest) e in
          let one = count.only bytes s.0 s.1 are s.2 in
          let others = each_only f Form exact s.0 s.1 xs rest one.0.rest_fits s.3 in
          let whole = Takes-then bytes (number_bytes w16 s.0) s.1 (each_bytes f xs) rest one.0 others.0 in (
            subst (λ (n : ℕ). Takes bytes (number_bytes w16 n ++ each_bytes f xs) rest) (sym others.1) whole,
            tt,
            others.2,
            (subst (λ (n : ℕ). is_between least most n ≡ true) (sym others.1) one.3.1, others.3),
          );
      left = λ bytes n are e.
          elim (then_err ((kept (is_between least most) (number w16)).read bytes) (λ n rest. each_at f n rest) n e) [
            | inl here ↦ count.left bytes n are here
            | inr later ↦
                let one = count.only bytes later.0 later.1 are later.2 in
                let shorter : length bytes ≡ length (number_bytes w16 later.0) + length later.1 = ap length one.0.parts ∙ length-append (number_bytes w16 later.0) later.1 in
                let below = each_left f Form exact later.0 later.1 n one.0.rest_fits later.3 in
                omega arith
          ];
    }
