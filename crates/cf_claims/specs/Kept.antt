-- What claims keep: the award, and each voucher's one claim.
use Rattle.std.specs.Prelude.{◌≡◌, ◌⊎◌, ℕ, ◌+◌, ◌<◌, ◌≤◌, ◌^◌, Bool, true, not, ◌&&◌, nat_lt, if◌then◌else◌, List, [], ◌∷◌, sum_by}
use Rattle.std.specs.List.{list_all}
use Rattle.cf_base.specs.Common.{is_day}
use Rattle.cf_calls.specs.Common.{voucher_items}
use Rattle.cf_model.specs.Common.{Entry, VoucherItem}
use Rattle.cf_chart.specs.Common.{Plan}
use Rattle.cf_grants.specs.declared.grant.Grant.{Grant}
use Rattle.cf_claims.specs.Claims.{Claim, claimed, claims_of, is_claimed, is_voucher}

abbrev pub claim_sum : List Claim → ℕ
claim_sum claims = sum_by (λ c. c.amount) claims

-- with the earlier claim bills on the source they come to at most the award, or there are none
abbrev pub KeepsAward : Grant → List Entry → List Claim → Type 0
KeepsAward g history claims = (claimed g.source history + claim_sum claims ≤ g.award)
    ⊎ (claims ≡ [])

-- none is of a voucher that was claimed
abbrev pub is_new : List Entry → Claim → Bool
is_new history c = not (is_claimed history c.voucher)

-- their vouchers rise, all above this one: so no number stands twice
abbrev pub claims_rise : ℕ → List Claim → Bool
claims_rise last [] = true
claims_rise last (c ∷ claims) = nat_lt last c.voucher && claims_rise c.voucher claims

-- the claims of a history keep the award; none is of a voucher that was claimed, and no two are of
-- one
pub record AreKept (plan : Plan) (g : Grant) (history : List Entry) : Type 0 where
  pub award : KeepsAward g history (claims_of plan g history)
  pub fresh : list_all (is_new history) (claims_of plan g history) ≡ true
  pub apart : claims_rise 0 (claims_of plan g history) ≡ true

-- ---- what holds of the entries of each legal history

-- an entry's day is one that the office knows, and a voucher's amounts sum to less than 2^64
pub record IsReadable (e : Entry) : Type 0 where
  pub on : is_day e.change.on ≡ true
  pub amounts : sum_by (λ (i : VoucherItem). i.account.amount) (voucher_items e.change.act) < 2 ^ 64

-- the vouchers of entries have rising numbers, all above this one
abbrev pub numbers_rise : ℕ → List Entry → Bool
numbers_rise last [] = true
numbers_rise last (e ∷ later) = if is_voucher e.change.act
    then nat_lt last e.drawn.number && numbers_rise e.drawn.number later
    else numbers_rise last later
