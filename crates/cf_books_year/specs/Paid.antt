-- What each vendor was paid in a calendar year, as records.
use Rattle.std.specs.Prelude.{ℕ, ℤ, ◌==◌, Bool, true, not, if◌then◌else◌, List, [], ◌∷◌, ◌++◌, Option, Some, None, codes, decimal, slice_get}
use Rattle.cf_base.specs.Common.{money_of, day_text}
use Rattle.cf_model.specs.Common.{Entry}
use Rattle.cf_books_lists.specs.Records.{head_text, record_text}
use Rattle.cf_books_payments.specs.Paid.{by_vendor, paid_in, paid_to}
use Rattle.cf_books_payments.specs.declared.entered.Paid.{Paid}
use Rattle.cf_books_payments.specs.declared.entered.PaidKind.{PaidKind}
use Rattle.cf_books_payments.specs.declared.entered.PaidKind.TheVariants as kind

-- the names of the columns
abbrev pub head : List (List ℕ)
head = codes "vendor" ∷ codes "document" ∷ codes "number" ∷ codes "key" ∷ codes "day" ∷ codes "run"
    ∷ codes "amount" ∷ []

abbrev pub kind_word : PaidKind → List ℕ
kind_word kind.Voucher = codes "voucher"
kind_word kind.Lease = codes "lease"

-- the key and the day of the entry at a place, from 0
abbrev pub key_of : Option Entry → List ℕ
key_of None = []
key_of (Some e) = e.change.key

abbrev pub day_of : Option Entry → List ℕ
day_of None = []
day_of (Some e) = day_text e.change.on

abbrev pub key_at : List Entry → ℕ → List ℕ
key_at history at = key_of (slice_get history at)

abbrev pub day_at : List Entry → ℕ → List ℕ
day_at history at = day_of (slice_get history at)

-- a document has the key of the entry that entered it, and the day and the key of the payment
abbrev pub paid_row : List Entry → Paid → List (List ℕ)
paid_row history p =
    decimal p.vendor ∷ kind_word p.kind ∷ decimal p.number ∷ key_at history p.at
    ∷ day_at history p.by ∷ key_at history p.by ∷ money_of p.amount ∷ []

abbrev pub total_row : ℕ → ℤ → List (List ℕ)
total_row vendor total = decimal vendor ∷ codes "total" ∷ [] ∷ [] ∷ [] ∷ [] ∷ money_of total ∷ []

-- whether a vendor is another than the one before it
abbrev pub is_next : Option ℕ → ℕ → Bool
is_next None vendor = true
is_next (Some before) vendor = not (before == vendor)

abbrev pub total_text : Bool → (ℕ → ℤ) → Option ℕ → ℕ → List ℕ
total_text csv totals before vendor = if is_next before vendor
    then record_text csv (total_row vendor (totals vendor)) else []

-- a vendor's total stands before the first of its rows
abbrev pub row_text : Bool → List Entry → (ℕ → ℤ) → Option ℕ → Paid → List ℕ
row_text csv history totals before p =
    total_text csv totals before p.vendor ++ record_text csv (paid_row history p)

abbrev pub rows_text : Bool → List Entry → (ℕ → ℤ) → Option ℕ → List Paid → List ℕ
rows_text csv history totals before [] = []
rows_text csv history totals before (p ∷ rest) =
    row_text csv history totals before p ++ rows_text csv history totals (Some p.vendor) rest

abbrev pub totals_in : ℕ → List Entry → ℕ → ℤ
totals_in year history vendor = paid_to vendor (paid_in year history)

abbrev pub paid_text : Bool → ℕ → List Entry → List ℕ
paid_text csv year history =
    head_text csv head ++ rows_text csv history (totals_in year history) None
    (by_vendor (paid_in year history))
