-- Claims, entry by entry.
use Rattle.std.proofs.Common.{◌≡◌, ℕ, ◌+◌, ◌<◌, ◌≤◌, ◌^◌, take, Bool, true, false, if◌then◌else◌, List, get_or, length, sum_by, arith}
use Rattle.cf_base.proofs.Common.{sum_by_more_le_part}
use Rattle.cf_model.specs.Common.{Day, Entry, VoucherItem}
use Rattle.cf_chart.specs.Common.{Plan, line_of}
use Rattle.cf_claims.specs.Claims.{eligible_item, is_among, claim_lines, claims_from}
use Rattle.cf_grants.specs.declared.grant.Grant.{Grant}

pub eligible_part : (plan : Plan) (lines : List ℕ) (year : ℕ) (i : VoucherItem) → eligible_item plan lines year i ≤ i.account.amount
eligible_part plan lines year i = by (is_among lines (line_of plan i.account.fund i.account.dept i.account.object year))
  where
    by : (b : Bool) → (if b then i.account.amount else 0) ≤ i.account.amount
    by true = omega arith
    by false = omega arith

pub part_fits : (plan : Plan) (lines : List ℕ) (year : ℕ) (items : List VoucherItem) (i : ℕ) (d : VoucherItem) (sum part : ℕ) → i < length items → sum ≡ sum_by (eligible_item plan lines year) (take i items)
    → part ≤ (get_or items i d).account.amount → sum_by (λ (x : VoucherItem). x.account.amount) items < 2 ^ 64 → sum + part < 2 ^ 64
part_fits plan lines year items i d sum part h is few all =
    omega (arith, is, few, all, sum_by_more_le_part (eligible_item plan lines year) (λ (x : VoucherItem). x.account.amount) items i d h (eligible_part plan lines year))

-- ---- what was appended, and what is still to come

abbrev pub rest_lines : Plan → Grant → List Entry → Day → ℕ → ℕ → List Entry → List ℕ
rest_lines plan g history on desk left entries = claim_lines g on desk (claims_from plan g history left entries)
