-- What a grantor is billed for (2 CFR 200.305: reimbursement of allowable costs that were paid; the
-- order of vouchers, the keys and the rounding are own rules).
use Rattle.std.specs.Prelude.{ℕ, ◌-◌, ◌*◌, ◌/◌, min, Bool, true, false, not, ◌&&◌, ◌||◌, ◌==◌, nat_lt, nat_le, if◌then◌else◌, List, [], ◌∷◌, ◌++◌, take, drop, length, slice_index, sum_by, flat_map, Option, Some, None, codes, decimal}
use Rattle.std.specs.List.{list_all, list_any}
use Rattle.std.specs.Str.{bytes_eq}
use Rattle.cf_base.specs.Common.{is_digit}
use Rattle.cf_model.specs.Common.{Day, Act, Pay, Voucher, NewBill, Entry, VoucherItem, document_year, is_year_closed}
use Rattle.cf_calls.specs.Common.{voucher_items}
use Rattle.cf_calls.specs.declared.acts.Act.TheVariants.{Bill}
use Rattle.cf_chart.specs.Common.{Plan, line_of}
use Rattle.cf_grants.specs.declared.grant.Grant.{Grant}
use Rattle.cf_json_lines.specs.Lines.{Hand, bill_line}

-- ---- claim bills: their keys are `claim-` and a number without leading zeros

abbrev pub claim_key : ℕ → List ℕ
claim_key n = codes "claim-" ++ decimal n

abbrev pub is_number_text : List ℕ → Bool
is_number_text text = nat_le 1 (length text) && list_all is_digit text
    && (nat_lt 48 (slice_index text 0) || (length text == 1))

abbrev pub is_claim_key : List ℕ → Bool
is_claim_key key = bytes_eq (take 6 key) (codes "claim-") && is_number_text (drop 6 key)

-- what an act bills on a source by a claim
abbrev pub billed : ℕ → List ℕ → Act → ℕ
billed source key (Bill b) = if is_claim_key key && (b.source == source) then b.amount else 0
billed source key _ = 0

-- the claim bills on a source
abbrev pub claimed : ℕ → List Entry → ℕ
claimed source history = sum_by (λ e. billed source e.change.key e.change.act) history

-- whether an act is the claim bill of this number
abbrev pub claims_number : ℕ → List ℕ → Act → Bool
claims_number n key (Bill b) = bytes_eq key (claim_key n)
claims_number n key _ = false

abbrev pub is_claimed : List Entry → ℕ → Bool
is_claimed history n = list_any (λ e. claims_number n e.change.key e.change.act) history

-- ---- vouchers

-- the vouchers that an act pays
abbrev pub vouchers_of : Act → List ℕ
vouchers_of (Pay p) = p.vouchers
vouchers_of _ = []

abbrev pub paid_numbers : List Entry → List ℕ
paid_numbers history = flat_map (λ e. vouchers_of e.change.act) history

abbrev pub has_number : ℕ → List ℕ → Bool
has_number n numbers = list_any (λ m. m == n) numbers

abbrev pub is_voucher : Act → Bool
is_voucher (Voucher v) = true
is_voucher _ = false

-- the fiscal year of a voucher
abbrev pub voucher_year : Plan → Entry → ℕ
voucher_year plan e = document_year plan e.change.on e.change.act

-- a voucher that a payment lists (a paid voucher is never void), whose year isn't closed, and of
-- which there is no claim bill
abbrev pub is_claimable : Plan → List Entry → Entry → Bool
is_claimable plan history e =
    is_voucher e.change.act && has_number e.drawn.number (paid_numbers history)
    && not (is_year_closed history (voucher_year plan e))
    && not (is_claimed history e.drawn.number)

abbrev pub is_among : List ℕ → Option ℕ → Bool
is_among lines None = false
is_among lines (Some n) = has_number n lines

-- what of an item of a voucher of a year is eligible: all of it, where its account's control line
-- in that year is one of the grant's
abbrev pub eligible_item : Plan → List ℕ → ℕ → VoucherItem → ℕ
eligible_item plan lines year i =
    if is_among lines (line_of plan i.account.fund i.account.dept i.account.object year)
    then i.account.amount else 0

abbrev pub eligible : Plan → List ℕ → Entry → ℕ
eligible plan lines e =
    sum_by (eligible_item plan lines (voucher_year plan e)) (voucher_items e.change.act)

-- ---- claims

pub record Claim : Type 0 where
  pub voucher : ℕ
  pub year : ℕ
  pub amount : ℕ

-- the grantor's share of what is eligible, rounded down
abbrev pub share_of : ℕ → ℕ → ℕ
share_of rate_bp sum = sum * rate_bp / 10000

-- what is claimed of an entry, of what is left of the award
abbrev pub amount_of : Plan → Grant → List Entry → ℕ → Entry → ℕ
amount_of plan g history left e = if is_claimable plan history e
    then min (share_of g.rate_bp (eligible plan g.lines e)) left else 0

abbrev pub claim_if : Plan → Entry → ℕ → List Claim
claim_if plan e amount = if amount == 0 then []
    else record { voucher = e.drawn.number; year = voucher_year plan e; amount = amount } ∷ []

-- the claims of the entries from here on, of what is left of the award
abbrev pub claims_from : Plan → Grant → List Entry → ℕ → List Entry → List Claim
claims_from plan g history left [] = []
claims_from plan g history left (e ∷ later) =
    let amount = amount_of plan g history left e in claim_if plan e amount
    ++ claims_from plan g history (left - amount) later

-- what is left of an award
abbrev pub left_of : Grant → List Entry → ℕ
left_of g history = g.award - claimed g.source history

-- the claims of a history: its vouchers stand by number
abbrev pub claims_of : Plan → Grant → List Entry → List Claim
claims_of plan g history = claims_from plan g history (left_of g history) history

-- ---- their lines

abbrev pub claim_hand : Day → ℕ → Claim → Hand
claim_hand on desk c = record { desk = desk; key = claim_key c.voucher; on = on }

abbrev pub claim_bill : Grant → Claim → NewBill
claim_bill g c = record
    { source = g.source; levy_year = c.year; payer = g.payer; amount = c.amount }

abbrev pub claim_line : Grant → Day → ℕ → Claim → List ℕ
claim_line g on desk c = bill_line (claim_hand on desk c) (claim_bill g c)

abbrev pub claim_lines : Grant → Day → ℕ → List Claim → List ℕ
claim_lines g on desk claims = flat_map (claim_line g on desk) claims
