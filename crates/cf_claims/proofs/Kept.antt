-- What claims keep: the award, and each voucher's one claim.
use Rattle.std.proofs.Common.{◌≡◌, ℕ, ◌-◌, ◌<◌, ◌≤◌, min, Bool, true, false, not, ◌&&◌, ◌==◌, nat_lt, if◌then◌else◌, List, [], ◌∷◌, ◌++◌, refl, sym, ap, ◌∙◌, arith, inl, inr, ⊎_elim}
use Rattle.cf_base.proofs.Common.{list_all, and_parts, cases_lt, eqb-true, eq-eqb, ltb-true, lt-ltb, sum_by-append}
use Rattle.cf_model.specs.Common.{Entry, is_year_closed}
use Rattle.cf_chart.specs.Common.{Plan}
use Rattle.cf_claims.specs.Claims.{Claim, amount_of, claim_if, claimed, claims_from, claims_of, eligible, has_number, is_claimable, is_claimed, is_voucher, left_of, paid_numbers, share_of, voucher_year}
use Rattle.cf_claims.specs.Kept.{AreKept, KeepsAward, claim_sum, claims_rise, is_new, numbers_rise}
use Rattle.cf_grants.specs.declared.grant.Grant.{Grant}

-- ---- the award

amount_within : (plan : Plan) (g : Grant) (history : List Entry) (left : ℕ) (e : Entry) → amount_of plan g history left e ≤ left
amount_within plan g history left e = by (is_claimable plan history e)
  where
    by : (b : Bool) → (if b then min (share_of g.rate_bp (eligible plan g.lines e)) left else 0) ≤ left
    by true = omega arith
    by false = omega arith

one_sum : (plan : Plan) (e : Entry) (a : ℕ) → claim_sum (claim_if plan e a) ≡ a
one_sum plan e a = by (a == 0) refl
  where
    by : (b : Bool) → (a == 0) ≡ b → claim_sum (if b then [] else record { voucher = e.drawn.number; year = voucher_year plan e; amount = a } ∷ []) ≡ a
    by true is = sym (eqb-true a 0 is)
    by false is = omega arith

sum_within : (plan : Plan) (g : Grant) (history : List Entry) (left : ℕ) (es : List Entry) → claim_sum (claims_from plan g history left es) ≤ left
sum_within plan g history left [] = omega arith
sum_within plan g history left (e ∷ es) =
    let a = amount_of plan g history left e in
    omega (
      arith,
      sum_by-append (λ (c : Claim). c.amount) (claim_if plan e a) (claims_from plan g history (left - a) es),
      one_sum plan e a,
      sum_within plan g history (left - a) es,
      amount_within plan g history left e,
    )

none_at_zero : (plan : Plan) (g : Grant) (history : List Entry) (left : ℕ) (es : List Entry) → left ≡ 0 → claims_from plan g history left es ≡ []
none_at_zero plan g history left [] none = refl
none_at_zero plan g history left (e ∷ es) none =
    let zero_amount : amount_of plan g history left e ≡ 0 = omega (arith, amount_within plan g history left e) in
    ap (λ a. claim_if plan e a ++ claims_from plan g history (left - a) es) zero_amount ∙ none_at_zero plan g history (left - 0) es (omega arith)

pub keeps_award : (plan : Plan) (g : Grant) (history : List Entry) → KeepsAward g history (claims_of plan g history)
keeps_award plan g history =
    ⊎_elim (λ (h : g.award < claimed g.source history). inr (none_at_zero plan g history (left_of g history) history (omega arith)))
    (λ (h : claimed g.source history ≤ g.award). inl (omega (arith, sum_within plan g history (left_of g history) history)))
    (cases_lt g.award (claimed g.source history))

-- ---- each voucher's one claim

all_append : (p : Claim → Bool) (xs ys : List Claim) → list_all p xs ≡ true → list_all p ys ≡ true → list_all p (xs ++ ys) ≡ true
all_append p [] ys h k = k
all_append p (x ∷ xs) ys h k = let t = and_parts (p x) (list_all p xs) h in rw t.0 (all_append p xs ys t.1 k)

-- an entry of which something is claimed is claimable
claimed_is : (plan : Plan) (g : Grant) (history : List Entry) (left : ℕ) (e : Entry) → ((amount_of plan g history left e) == 0) ≡ false → is_claimable plan history e ≡ true
claimed_is plan g history left e some = by (is_claimable plan history e) refl
  where
    by : (b : Bool) → is_claimable plan history e ≡ b → b ≡ true
    by true is = refl
    by false is =
        let none : amount_of plan g history left e ≡ 0 = ap (λ b. if b then min (share_of g.rate_bp (eligible plan g.lines e)) left else 0) is in
        absurd (cc (some, eq-eqb (amount_of plan g history left e) 0 none))

not_claimed : (plan : Plan) (history : List Entry) (e : Entry) → is_claimable plan history e ≡ true → not (is_claimed history e.drawn.number) ≡ true
not_claimed plan history e h =
    (and_parts (is_voucher e.change.act && has_number e.drawn.number (paid_numbers history) && not (is_year_closed history (voucher_year plan e))) (not (is_claimed history e.drawn.number)) h).1

voucher_is : (plan : Plan) (history : List Entry) (e : Entry) → is_claimable plan history e ≡ true → is_voucher e.change.act ≡ true
voucher_is plan history e h =
    let a = and_parts (is_voucher e.change.act && has_number e.drawn.number (paid_numbers history) && not (is_year_closed history (voucher_year plan e))) (not (is_claimed history e.drawn.number)) h in
    let b = and_parts (is_voucher e.change.act && has_number e.drawn.number (paid_numbers history)) (not (is_year_closed history (voucher_year plan e))) a.0 in
    (and_parts (is_voucher e.change.act) (has_number e.drawn.number (paid_numbers history)) b.0).0

one_new : (plan : Plan) (g : Grant) (history : List Entry) (left : ℕ) (e : Entry) → list_all (is_new history) (claim_if plan e (amount_of plan g history left e)) ≡ true
one_new plan g history left e = by (amount_of plan g history left e == 0) refl
  where
    by : (b : Bool) → (amount_of plan g history left e == 0) ≡ b
        → list_all (is_new history) (if b then [] else record { voucher = e.drawn.number; year = voucher_year plan e; amount = amount_of plan g history left e } ∷ []) ≡ true
    by true is = refl
    by false is = rw (not_claimed plan history e (claimed_is plan g history left e is)) refl

pub all_new : (plan : Plan) (g : Grant) (history : List Entry) (left : ℕ) (es : List Entry) → list_all (is_new history) (claims_from plan g history left es) ≡ true
all_new plan g history left [] = refl
all_new plan g history left (e ∷ es) =
    let a = amount_of plan g history left e in
    all_append (is_new history) (claim_if plan e a) (claims_from plan g history (left - a) es) (one_new plan g history left e) (all_new plan g history (left - a) es)

-- ---- numbers rise

rise_lower : (low last : ℕ) (claims : List Claim) → low ≤ last → claims_rise last claims ≡ true → claims_rise low claims ≡ true
rise_lower low last [] h k = refl
rise_lower low last (c ∷ claims) h k =
    let t = and_parts (nat_lt last c.voucher) (claims_rise c.voucher claims) k in
    rw (lt-ltb low c.voucher (omega (arith, ltb-true last c.voucher t.0)), t.1) refl

rise_yes : (plan : Plan) (e : Entry) (a last : ℕ) (rest : List Claim) → nat_lt last e.drawn.number ≡ true → claims_rise e.drawn.number rest ≡ true
    → claims_rise last (claim_if plan e a ++ rest) ≡ true
rise_yes plan e a last rest above later = by (a == 0)
  where
    by : (b : Bool) → claims_rise last ((if b then [] else record { voucher = e.drawn.number; year = voucher_year plan e; amount = a } ∷ []) ++ rest) ≡ true
    by true = rise_lower last e.drawn.number rest (omega (arith, ltb-true last e.drawn.number above)) later
    by false = rw (above, later) refl

no_amount : (plan : Plan) (g : Grant) (history : List Entry) (left : ℕ) (e : Entry) → is_voucher e.change.act ≡ false → amount_of plan g history left e ≡ 0
no_amount plan g history left e other = by (is_claimable plan history e) refl
  where
    by : (b : Bool) → is_claimable plan history e ≡ b → (if b then min (share_of g.rate_bp (eligible plan g.lines e)) left else 0) ≡ 0
    by false is = refl
    by true is = absurd (cc (other, voucher_is plan history e is))

rise_step : (plan : Plan) (g : Grant) (history : List Entry) (left : ℕ) (e : Entry) (es : List Entry) (last : ℕ) (rest : List Claim) (v : Bool) → is_voucher e.change.act ≡ v
    → (if v then nat_lt last e.drawn.number && numbers_rise e.drawn.number es else numbers_rise last es) ≡ true
    → ((n : ℕ) → numbers_rise n es ≡ true → claims_rise n rest ≡ true)
    → claims_rise last (claim_if plan e (amount_of plan g history left e) ++ rest) ≡ true
rise_step plan g history left e es last rest true is rising later =
    let t = and_parts (nat_lt last e.drawn.number) (numbers_rise e.drawn.number es) rising in
    rise_yes plan e (amount_of plan g history left e) last rest t.0 (later e.drawn.number t.1)
rise_step plan g history left e es last rest false is rising later =
    ap (λ a. claims_rise last (claim_if plan e a ++ rest)) (no_amount plan g history left e is) ∙ later last rising

pub all_rise : (plan : Plan) (g : Grant) (history : List Entry) (left : ℕ) (es : List Entry) (last : ℕ) → numbers_rise last es ≡ true → claims_rise last (claims_from plan g history left es) ≡ true
all_rise plan g history left [] last rising = refl
all_rise plan g history left (e ∷ es) last rising =
    let a = amount_of plan g history left e in
    rise_step plan g history left e es last (claims_from plan g history (left - a) es) (is_voucher e.change.act) refl rising
    (λ n h. all_rise plan g history (left - a) es n h)

pub are_kept : (plan : Plan) (g : Grant) (history : List Entry) → numbers_rise 0 history ≡ true → AreKept plan g history
are_kept plan g history rising = record {
  award = keeps_award plan g history;
  fresh = all_new plan g history (left_of g history) history;
  apart = all_rise plan g history (left_of g history) history 0 rising;
}
