-- How the vouchers of a grant stand (own rule): what of each is eligible, and whether it is claimed
-- or can be.
use Rattle.std.specs.Prelude.{◌≡◌, ℕ, ◌<◌, ◌^◌, ◌-◌, ◌==◌, min, Bool, true, false, if◌then◌else◌, List, [], ◌∷◌, ◌++◌, flat_map, fold, Option, Some, None, Ok}
use Rattle.std.specs.BTreeMap.{get}
use Rattle.std.specs.Ordering.{nat_cmp}
use Rattle.cf_model.specs.Common.{Entry, is_year_closed}
use Rattle.cf_chart.specs.Common.{Plan}
use Rattle.cf_claims.specs.Claims.{Claim, amount_of, claims_number, eligible, has_number, left_of, paid_numbers, share_of, voucher_year}
use Rattle.cf_claims.specs.Marks.{AreMarks}
use Rattle.cf_claims.specs.declared.standing.ClaimState.{ClaimState}
use Rattle.cf_claims.specs.declared.standing.ClaimState.TheVariants as state
use Rattle.cf_claims.specs.declared.standing.GrantVoucher.{GrantVoucher}
use Rattle.cf_claims.specs.declared.standing.Known.{Known}
use Rattle.cf_grants.specs.declared.fault.GrantFault.TheVariants.{Unknown}
use Rattle.cf_grants.specs.declared.grant.Grant.{Grant}
use Rattle.cf_grants.specs.Faults.{Checked, ◌>>=◌, or_fault}
use Rattle.cf_grants.specs.Grants.{grant_at}
use Rattle.cf_grants.specs.Reading.{grants_of}

-- ---- which bill claims a voucher

abbrev pub put : ℕ → ℕ → Option ℕ → ℕ → Option ℕ
put voucher bill before n = if voucher == n then Some bill else before

abbrev pub bill_after : ℕ → Option ℕ → Entry → Option ℕ
bill_after n before e = if claims_number n e.change.key e.change.act then Some e.drawn.number
    else before

-- the number of the last claim bill of a voucher
abbrev pub bill_of : List Entry → ℕ → Option ℕ
bill_of history n = fold (bill_after n) None history

-- ---- a voucher

-- by its claim bill, and whether it is paid and its year closed
abbrev pub unclaimed_by : Option ℕ → Bool → Bool → ClaimState
unclaimed_by (Some bill) paid closed = state.Claimed bill
unclaimed_by None false closed = state.Unpaid
unclaimed_by None true true = state.YearClosed
unclaimed_by None true false = state.NothingLeft

-- why nothing is claimed of a voucher of a year
abbrev pub unclaimed : List Entry → ℕ → ℕ → ClaimState
unclaimed history year n =
    unclaimed_by (bill_of history n) (has_number n (paid_numbers history))
    (is_year_closed history year)

abbrev pub state_of : List Entry → ℕ → ℕ → ℕ → ClaimState
state_of history year n amount = if amount == 0 then unclaimed history year n
    else state.Claimable amount

-- the share of what is eligible; no rate is above the whole
abbrev pub own_share : ℕ → ℕ → ℕ
own_share rate_bp sum = min (share_of rate_bp sum) sum

-- how an entry's voucher stands, where so much of it is claimed and so much is left then
abbrev pub row_of : Plan → Grant → List Entry → Entry → ℕ → ℕ → GrantVoucher
row_of plan g history e amount left = record {
  number = e.drawn.number;
  on = e.change.on;
  year = voucher_year plan e;
  eligible = eligible plan g.lines e;
  share = own_share g.rate_bp (eligible plan g.lines e);
  state = state_of history (voucher_year plan e) e.drawn.number amount;
  left = left;
}

-- a row stands where something is eligible
abbrev pub row_if : GrantVoucher → List GrantVoucher
row_if row = if row.eligible == 0 then [] else row ∷ []

-- ---- the vouchers of a history

-- those of the entries from here on, of what is left of the award
abbrev pub rows_from : Plan → Grant → List Entry → ℕ → List Entry → List GrantVoucher
rows_from plan g history left [] = []
rows_from plan g history left (e ∷ later) =
    let amount = amount_of plan g history left e in row_if
    (row_of plan g history e amount (left - amount))
    ++ rows_from plan g history (left - amount) later

abbrev pub rows_of : Plan → Grant → List Entry → List GrantVoucher
rows_of plan g history = rows_from plan g history (left_of g history) history

-- the rows, or the first fault of the document
abbrev pub vouchers_of_grant : Plan → List Entry → List ℕ → ℕ → Checked (List GrantVoucher)
vouchers_of_grant plan history bytes id = do
  grants ← grants_of plan bytes
  g ← or_fault (grant_at grants id) (Unknown id)
  Ok (rows_of plan g history)

-- ---- the claims that rows say

abbrev pub claim_by : ℕ → ℕ → ClaimState → List Claim
claim_by n year (state.Claimable amount) = record { voucher = n; year = year; amount = amount } ∷ []
claim_by n year _ = []

-- the claimable rows, with their amounts
abbrev pub claims_in : List GrantVoucher → List Claim
claims_in rows = flat_map (λ r. claim_by r.number r.year r.state) rows

-- ---- what is known of a history

pub record Knows (k : Known) (history : List Entry) : Type 0 where
  pub marks : AreMarks k.marks history
  pub bills : (n : ℕ) → n < 2 ^ 32 → get nat_cmp k.bills n ≡ bill_of history n
