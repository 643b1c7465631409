-- What is known of a document: its words.
use Rattle.std.specs.Prelude.{ℕ, Bool, true, false, List, [], Option, Some, None, codes}
use Rattle.cf_books_documents.specs.declared.event.Subject.{Subject}
use Rattle.cf_books_documents.specs.declared.event.Subject.TheVariants as subject
use Rattle.cf_books_documents.specs.declared.facts.State.{State}
use Rattle.cf_books_documents.specs.declared.facts.State.TheVariants as state
use Rattle.cf_books_words.specs.declared.words.DocumentKind.{DocumentKind}
use Rattle.cf_books_words.specs.declared.words.DocumentKind.TheVariants as kind

abbrev pub is_lapsed : Option State → Bool
is_lapsed (Some state.Lapsed) = true
is_lapsed _ = false

-- what the numbers of a kind are of
abbrev pub subject_of : DocumentKind → Subject
subject_of kind.Requisition = subject.Requisition
subject_of kind.Order = subject.Order
subject_of kind.Voucher = subject.Voucher
subject_of kind.Bill = subject.Bill
subject_of kind.Asset = subject.Asset
subject_of kind.Bond = subject.Debt
subject_of kind.Lease = subject.Debt
subject_of kind.Loan = subject.Loan

abbrev pub kind_word : DocumentKind → List ℕ
kind_word kind.Requisition = codes "requisition"
kind_word kind.Order = codes "order"
kind_word kind.Voucher = codes "voucher"
kind_word kind.Bill = codes "bill"
kind_word kind.Asset = codes "asset"
kind_word kind.Bond = codes "bond"
kind_word kind.Lease = codes "lease"
kind_word kind.Loan = codes "loan"

abbrev pub state_word : Option State → List ℕ
state_word None = []
state_word (Some state.Open) = codes "open"
state_word (Some state.Withdrawn) = codes "withdrawn"
state_word (Some state.Ordered) = codes "ordered"
state_word (Some state.Lapsed) = codes "lapsed"
state_word (Some state.Live) = codes "live"
state_word (Some state.Finished) = codes "finished"
state_word (Some state.Cancelled) = codes "cancelled"
state_word (Some state.Paid) = codes "paid"
state_word (Some state.Void) = codes "void"
state_word (Some state.Held) = codes "held"
state_word (Some state.Disposed) = codes "disposed"
state_word (Some state.Settled) = codes "settled"
state_word (Some state.Repaid) = codes "repaid"

abbrev pub is_kind : DocumentKind → DocumentKind → Bool
is_kind kind.Requisition kind.Requisition = true
is_kind kind.Order kind.Order = true
is_kind kind.Voucher kind.Voucher = true
is_kind kind.Bill kind.Bill = true
is_kind kind.Asset kind.Asset = true
is_kind kind.Bond kind.Bond = true
is_kind kind.Lease kind.Lease = true
is_kind kind.Loan kind.Loan = true
is_kind _ _ = false
