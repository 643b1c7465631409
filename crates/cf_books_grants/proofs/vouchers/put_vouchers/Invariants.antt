use Rattle.std.proofs.Common.{◌≡◌, drop}
use Rattle.cf_books_grants.specs.Vouchers.{rows_text}
use Rattle.cf_books_lists.specs.Rows.{added}
use Rattle.cf_books_grants.proofs.vouchers.put_vouchers.Given as goal

-- what was written, and what is still to come
abbrev pub invariant-loop-voucher : goal.invariant-loop-voucher
invariant-loop-voucher l = added l.out (rows_text l.out.csv (drop l.voucher-index l.vouchers)) ≡ added l.initial.out (rows_text l.initial.out.csv l.vouchers)
