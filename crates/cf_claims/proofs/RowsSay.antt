-- The rows of vouchers, entry by entry, and the claims that they say.
use Rattle.std.proofs.Common.{◌≡◌, ℕ, ◌+◌, ◌-◌, ◌==◌, ◌*◌, ◌/◌, min, Bool, true, false, if◌then◌else◌, List, [], ◌∷◌, ◌++◌, Option, Some, None, refl, sym, ap, ◌∙◌, arith, nat_cmp, is_eq}
use Rattle.cf_base.proofs.Common.{eqb-true, common_steps}
use Rattle.std.proofs.lemmas.List.Concat.{flat_map-append}
use Rattle.cf_model.specs.Common.{Entry}
use Rattle.cf_chart.specs.Common.{Plan}
use Rattle.cf_claims.specs.Claims.{amount_of, claim_if, claims_from, claims_of, eligible, is_claimable, left_of, share_of, voucher_year}
use Rattle.cf_claims.specs.Standing.{bill_of, claim_by, claims_in, row_if, row_of, rows_from, rows_of, unclaimed_by, unclaimed}
use Rattle.cf_claims.specs.declared.standing.ClaimState.{ClaimState}
use Rattle.cf_claims.specs.declared.standing.GrantVoucher.{GrantVoucher}
use Rattle.cf_grants.specs.declared.grant.Grant.{Grant}

pub same_number : (a b : ℕ) → is_eq (nat_cmp a b) ≡ (a == b)
same_number a b = grind (arith, common_steps)

-- ---- the rows from an entry on

-- ---- what the rows say is claimed

unclaimed_none : (n year : ℕ) (bill : Option ℕ) (paid closed : Bool) → claim_by n year (unclaimed_by bill paid closed) ≡ []
unclaimed_none n year (Some b) paid closed = refl
unclaimed_none n year None false closed = refl
unclaimed_none n year None true true = refl
unclaimed_none n year None true false = refl

-- of a voucher of which nothing is eligible nothing is claimed
nothing_claimed : (plan : Plan) (g : Grant) (history : List Entry) (left : ℕ) (e : Entry) → eligible plan g.lines e ≡ 0 → amount_of plan g history left e ≡ 0
nothing_claimed plan g history left e none = by (is_claimable plan history e)
  where
    least : (rate : ℕ) → min (0 * rate / 10000) left ≡ 0
    least rate = omega arith

    zero : min (share_of g.rate_bp (eligible plan g.lines e)) left ≡ 0
    zero = ap (λ s. min (share_of g.rate_bp s) left) none ∙ least g.rate_bp

    by : (b : Bool) → (if b then min (share_of g.rate_bp (eligible plan g.lines e)) left else 0) ≡ 0
    by true = zero
    by false = refl

row_says : (plan : Plan) (g : Grant) (history : List Entry) (e : Entry) (amount left : ℕ) → (eligible plan g.lines e ≡ 0 → amount ≡ 0)
    → claims_in (row_if (row_of plan g history e amount left)) ≡ claim_if plan e amount
row_says plan g history e amount left none = by (eligible plan g.lines e == 0) refl
  where
    year : ℕ
    year = voucher_year plan e

    said : (b : Bool) → (amount == 0) ≡ b
        → claim_by e.drawn.number year (if b then unclaimed history year e.drawn.number else Rattle.cf_claims.specs.declared.standing.ClaimState.TheVariants.Claimable amount) ++ []
        ≡ (if b then [] else record { voucher = e.drawn.number; year = year; amount = amount } ∷ [])
    said true is = ap (λ cs. cs ++ []) (unclaimed_none e.drawn.number year (bill_of history e.drawn.number) _ _)
    said false is = refl

    by : (b : Bool) → (eligible plan g.lines e == 0) ≡ b → claims_in (if b then [] else row_of plan g history e amount left ∷ []) ≡ claim_if plan e amount
    by true is = ap (claim_if plan e) (sym (none (eqb-true _ 0 is)))
    by false is = said (amount == 0) refl

says_from : (plan : Plan) (g : Grant) (history : List Entry) (left : ℕ) (es : List Entry) → claims_in (rows_from plan g history left es) ≡ claims_from plan g history left es
says_from plan g history left [] = refl
says_from plan g history left (e ∷ es) =
    let a = amount_of plan g history left e in
    flat_map-append (λ (r : GrantVoucher). claim_by r.number r.year r.state) (row_if (row_of plan g history e a (left - a))) (rows_from plan g history (left - a) es)
    ∙ ap (λ cs. cs ++ claims_in (rows_from plan g history (left - a) es)) (row_says plan g history e a (left - a) (nothing_claimed plan g history left e))
    ∙ ap (λ cs. claim_if plan e a ++ cs) (says_from plan g history (left - a) es)

-- the claimable rows are the claims
pub rows_say : (plan : Plan) (g : Grant) (history : List Entry) → claims_in (rows_of plan g history) ≡ claims_of plan g history
rows_say plan g history = says_from plan g history (left_of g history) history
