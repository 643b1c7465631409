use Rattle.std.proofs.Common.{◌≡◌, ℕ, None, take, nat_cmp, fold, option_and_then, slice_get}
use Rattle.cf_base.proofs.Common.{get}
use Rattle.cf_books_documents.specs.Events.{voucher_after}
use Rattle.cf_books_documents.proofs.vouchers.vouchers_of.Given as goal

abbrev pub invariant-loop-at : goal.invariant-loop-at
invariant-loop-at l = (n : ℕ) → option_and_then (slice_get l.entries) (get nat_cmp l.places n) ≡ fold (voucher_after n) None (take l.at l.entries)
