-- Laws of what the fields of a head say.
use Rattle.std.proofs.Common.{eqb, ◌≡◌, ◌≢◌, ◌+◌, ◌*◌, ◌<◌, ◌≤◌, ℕ, suc, List, [], ◌∷◌, ◌++◌, Bool, true, false, length, Result, Ok, Err, nat_le, nat_lt, ◌==◌, ◌&&◌, not, codes, if◌then◌else◌, arith, subst, refl, sym, ap, ◌∙◌, take, drop, slice_index, drop-cons}
use Rattle.cf_base.proofs.Common.{⊤, position_or_len, before_first, after_first, digits_value, digits_value_after, digit_value, leb-true, take-append-drop, All-head, All-tail}
use Rattle.cf_http_heads.specs.Fields.{Fields, values_of, body_length, is_number, parts, stated_length, HasNone}
use Rattle.cf_http_heads.specs.declared.fields.Refusal.{Refusal}
use Rattle.cf_http_heads.specs.declared.fields.Refusal.TheVariants.{Head, Coding, Long}

-- digits never make a number smaller
pub after_least : (n : ℕ) (ds : List ℕ) → n ≤ digits_value_after 10 n ds
after_least n [] = omega arith
after_least n (c ∷ cs) = omega (arith, after_least (n * 10 + digit_value c) cs)

-- what has no separator is one part
pub parts_alone : (separator : ℕ) (text : List ℕ) → HasNone separator text → parts separator text ≡ text ∷ []
parts_alone separator [] none = refl
parts_alone separator (b ∷ bs) none =
    let other : b ≢ separator = All-head (λ x. x ≢ separator) b bs none in
    let rest : parts separator bs ≡ bs ∷ [] = parts_alone separator bs (All-tail (λ x. x ≢ separator) b bs none) in
    grind (arith, other, rest)

-- and before a separator it is the first one
pub parts_first : (separator : ℕ) (front back : List ℕ) → HasNone separator front → parts separator (front ++ separator ∷ back) ≡ front ∷ parts separator back
parts_first separator [] back none = grind arith
parts_first separator (b ∷ bs) back none =
    let other : b ≢ separator = All-head (λ x. x ≢ separator) b bs none in
    let rest : parts separator (bs ++ separator ∷ back) ≡ bs ∷ parts separator back = parts_first separator bs back (All-tail (λ x. x ≢ separator) b bs none) in
    grind (arith, other, rest)

-- a text at its first separator
pub parts_at : (separator : ℕ) (text back left : List ℕ) (place : ℕ) → place < length text → HasNone separator (take place text) → slice_index text place ≡ separator → back ≡ drop place text → left ≡ drop 1 back
    → parts separator text ≡ take place text ∷ parts separator left
parts_at separator text back left place lt none here b l =
    ap (parts separator) (sym (take-append-drop place text) ∙ ap (λ t. take place text ++ t) (split ∙ ap (λ x. x ∷ drop (suc place) text) here ∙ ap (λ t. separator ∷ t) (sym (l ∙ ap (drop 1) (b ∙ split)))))
    ∙ parts_first separator (take place text) left none
  where
    split : drop place text ≡ slice_index text place ∷ drop (suc place) text
    split = drop-cons text place 0 lt

-- an error is no value
abbrev OnlyErr : {A E : Type 0} → Result A E → Type 0
OnlyErr (Ok a) = ⊥
OnlyErr (Err e) = ⊤

pub err_no_ok : {A E : Type 0} (e : E) (a : A) → ◌≡◌ {A = Result A E} (Err e) (Ok a) → ⊥
err_no_ok e a h = subst OnlyErr h tt

abbrev number_of : Result ℕ Refusal → ℕ
number_of (Ok n) = n
number_of (Err e) = 0

-- what a test has not refused
past : (b : Bool) (e : Refusal) (x : Result ℕ Refusal) (n : ℕ) → (if b then Err e else x) ≡ Ok n → x ≡ Ok n
past true e x n h = absurd (err_no_ok e n h)
past false e x n h = h

within : (b : Bool) (n m : ℕ) (e : Refusal) → nat_le n 262144 ≡ b → (if b then Ok n else Err e) ≡ Ok m → m ≤ 262144
within true n m e le h = subst (λ k. k ≤ 262144) (ap number_of h) (leb-true n 262144 le)
within false n m e le h = absurd (err_no_ok e m h)

length_within : (b : Bool) (n m : ℕ) → (if b then (if nat_le n 262144 then Ok n else Err Long) else Err Head) ≡ Ok m → m ≤ 262144
length_within true n m h = within (nat_le n 262144) n m Long refl h
length_within false n m h = absurd (err_no_ok Head m h)

-- a body is at most so long
pub stated_within : (vs : List (List ℕ)) (n : ℕ) → stated_length vs ≡ Ok n → n ≤ 262144
stated_within [] n h = let z : 0 ≡ n = ap number_of h in omega (arith, z)
stated_within (v ∷ []) n h = length_within (is_number v) (digits_value 10 v) n h
stated_within (v ∷ w ∷ vs) n h = absurd (err_no_ok Head n h)

pub body_within : (minor : ℕ) (fields : Fields) (n : ℕ) → body_length minor fields ≡ Ok n → n ≤ 262144
body_within minor fields n h =
    let no_host = minor == 1 && not (length (values_of (codes "host") fields) == 1) in
    let coded = nat_lt 0 (length (values_of (codes "transfer-encoding") fields)) in
    let stated = stated_length (values_of (codes "content-length") fields) in
    stated_within (values_of (codes "content-length") fields) n (past coded Coding stated n (past no_host Head (if coded then Err Coding else stated) n h))

-- the parts of a text by its first separator
split_by : (s b : ℕ) (bs : List ℕ) (t : Bool) → eqb b s ≡ t → position_or_len (λ b. eqb b s) (b ∷ bs) < length (b ∷ bs)
    → (position_or_len (λ b. eqb b s) bs < length bs → parts s bs ≡ before_first (λ b. eqb b s) bs ∷ parts s (after_first (λ b. eqb b s) bs))
    → parts s (b ∷ bs) ≡ before_first (λ b. eqb b s) (b ∷ bs) ∷ parts s (after_first (λ b. eqb b s) (b ∷ bs))
split_by s b bs true e lt later = rw e refl
split_by s b bs false e lt later = let l = rw e at lt in
    let h = later (omega (arith, l)) in
    let n = position_or_len (λ b. eqb b s) bs in
    let one : 1 + n ≡ suc n = omega arith in
    let two : (1 + n) + 1 ≡ suc (n + 1) = omega arith in
    rw (e, h, two, one) refl

pub parts_split : (s : ℕ) (text : List ℕ) → position_or_len (λ b. eqb b s) text < length text → parts s text ≡ before_first (λ b. eqb b s) text ∷ parts s (after_first (λ b. eqb b s) text)
parts_split s [] lt = absurd (omega (arith, lt))
parts_split s (b ∷ bs) lt = split_by s b bs (eqb b s) refl lt (parts_split s bs)

whole_by : (s b : ℕ) (bs : List ℕ) (t : Bool) → eqb b s ≡ t → position_or_len (λ b. eqb b s) (b ∷ bs) ≡ length (b ∷ bs)
    → (position_or_len (λ b. eqb b s) bs ≡ length bs → parts s bs ≡ bs ∷ []) → parts s (b ∷ bs) ≡ (b ∷ bs) ∷ []
whole_by s b bs true e none later = let h : 0 ≡ suc (length bs) = rw e at none in absurd (omega (arith, h))
whole_by s b bs false e none later = let h = rw e at none in let w = later (omega (arith, h)) in rw (e, w) refl

pub parts_whole : (s : ℕ) (text : List ℕ) → position_or_len (λ b. eqb b s) text ≡ length text → parts s text ≡ text ∷ []
parts_whole s [] e = refl
parts_whole s (b ∷ bs) e = whole_by s b bs (eqb b s) refl e (parts_whole s bs)

-- a text has one part at least
pub parts_some : (s : ℕ) (text : List ℕ) → (w : List ℕ) × (ws : List (List ℕ)) × (parts s text ≡ w ∷ ws)
parts_some s [] = ([], [], refl)
parts_some s (b ∷ bs) = some_by (eqb b s) refl (parts_some s bs)
  where
    some_by : (t : Bool) → eqb b s ≡ t → ((w : List ℕ) × (ws : List (List ℕ)) × (parts s bs ≡ w ∷ ws)) → (w : List ℕ) × (ws : List (List ℕ)) × (parts s (b ∷ bs) ≡ w ∷ ws)
    some_by true e h = ([], parts s bs, rw e refl)
    some_by false e h = (b ∷ h.0, h.1, rw (e, h.2) refl)
