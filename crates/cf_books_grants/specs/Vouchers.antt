-- A row a voucher of a grant: its number, day and fiscal year, what is eligible of it and the
-- grantor's share, how it stands, what can be claimed or which bill claims it, and what is then
-- left of the award.
use Rattle.std.specs.Prelude.{ℕ, pos, Bool, List, [], ◌∷◌, ◌++◌, flat_map, codes, decimal}
use Rattle.cf_base.specs.Common.{money_of, day_text}
use Rattle.cf_claims.specs.declared.standing.ClaimState.{ClaimState}
use Rattle.cf_claims.specs.declared.standing.ClaimState.TheVariants.{Claimable, Claimed, Unpaid, YearClosed, NothingLeft}
use Rattle.cf_claims.specs.declared.standing.GrantVoucher.{GrantVoucher}
use Rattle.cf_books_lists.specs.Records.{head_text, record_text}

abbrev pub state_word : ClaimState → List ℕ
state_word (Claimable amount) = codes "claimable"
state_word (Claimed bill) = codes "claimed"
state_word Unpaid = codes "unpaid"
state_word YearClosed = codes "year closed"
state_word NothingLeft = codes "nothing left"

-- an amount in units of money
abbrev pub money : ℕ → List ℕ
money n = money_of (pos n)

abbrev pub amount_text : ClaimState → List ℕ
amount_text (Claimable amount) = money amount
amount_text _ = []

abbrev pub bill_text : ClaimState → List ℕ
bill_text (Claimed bill) = decimal bill
bill_text _ = []

abbrev pub voucher_row : GrantVoucher → List (List ℕ)
voucher_row v =
    decimal v.number ∷ day_text v.on ∷ decimal v.year ∷ money v.eligible ∷ money v.share
    ∷ state_word v.state ∷ amount_text v.state ∷ bill_text v.state ∷ money v.left ∷ []

-- the names of the columns
abbrev pub header : List (List ℕ)
header = codes "voucher" ∷ codes "day" ∷ codes "year" ∷ codes "eligible" ∷ codes "share"
    ∷ codes "state" ∷ codes "amount" ∷ codes "bill" ∷ codes "left" ∷ []

abbrev pub head_rows : Bool → List ℕ
head_rows csv = head_text csv header

abbrev pub rows_text : Bool → List GrantVoucher → List ℕ
rows_text csv vouchers = flat_map (λ v. record_text csv (voucher_row v)) vouchers

abbrev pub vouchers_text : Bool → List GrantVoucher → List ℕ
vouchers_text csv vouchers = head_rows csv ++ rows_text csv vouchers
