use Rattle.std.proofs.Common.{◌≡◌, ◌++◌, drop, map}
use Rattle.cf_books_documents.specs.Events.{whole}
use Rattle.cf_books_documents.specs.declared.event.Deed.TheVariants.{Paid}
use Rattle.cf_books_documents.specs.declared.event.Subject.TheVariants.{Voucher}
use Rattle.cf_books_documents.proofs.named.add_paid.Given as goal

-- what was added, and what is still to come
abbrev pub invariant-loop-number : goal.invariant-loop-number
invariant-loop-number l =
    l.out.items ++ map (λ n. whole Voucher n Paid l.place) (drop l.number-index l.vouchers) ≡ l.initial.out.items ++ map (λ n. whole Voucher n Paid l.place) l.vouchers
