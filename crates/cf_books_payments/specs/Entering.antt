-- What those who list payments keep: places of entries, and amounts that sums of them fit.
use Rattle.std.specs.Prelude.{ℕ, ℤ, pos, ◌<◌, ◌^◌, List, unsigned_abs, unwrap_or}
use Rattle.std.specs.BTreeMap.{get}
use Rattle.std.specs.List.{All}
use Rattle.std.specs.Ordering.{nat_cmp}
use Rattle.cf_calls.specs.Common.{IsChangeInForm}
use Rattle.cf_model.specs.Common.{Entry}
use Rattle.cf_books_payments.specs.Paid.{Places}
use Rattle.cf_books_payments.specs.declared.entered.Entered.{Entered}
use Rattle.cf_books_payments.specs.declared.entered.Paid.{Paid}
use Rattle.cf_books_payments.specs.declared.sums.Totals.{Totals}

abbrev pub places_in : Entered → Places
places_in t = record { vouchers = get nat_cmp t.vouchers; debts = get nat_cmp t.debts }

-- each change is in form
abbrev pub AreInForm : List Entry → Type 0
AreInForm entries = All (λ e. IsChangeInForm e.change) entries

abbrev pub IsSmall : Paid → Type 0
IsSmall p = unsigned_abs p.amount < 2 ^ 90

abbrev pub AreSmall : List Paid → Type 0
AreSmall paid = All IsSmall paid

-- what a vendor was paid, by the totals
abbrev pub sum_at : Totals → ℕ → ℤ
sum_at t vendor = unwrap_or (get nat_cmp t.sums vendor) (pos 0)
