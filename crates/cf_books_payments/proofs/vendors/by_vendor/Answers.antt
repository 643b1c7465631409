use Rattle.std.proofs.Common.{rules}
use Rattle.cf_base.proofs.Common.{IsNonDecreasingBy-from_sort_by_key, answers_always, on_ok_weaker}
use Rattle.cf_books_payments.specs.declared.entered.Paid.{Paid}
use Rattle.cf_books_payments.proofs.Paying.{lists_all}
use Rattle.cf_books_payments.proofs.Rising.{sorted}
use Rattle.cf_books_payments.proofs.vendors.by_vendor.Goals as goal

pub returns-clause-sorted : goal.returns-clause-sorted
returns-clause-sorted c =
    let was = c.args.rows.now.items in
    let is = c.sort_by_key.new.self.items in
    let stable = c.sort_by_key.ensures.stable (λ (p : Paid). p.vendor) (answers_always _ _ _ (λ f a r g h. search rules)) in
    on_ok_weaker c.sort_by_key.result
    (λ rising. sorted was is (IsNonDecreasingBy-from_sort_by_key (λ (p : Paid). p.vendor) is rising (λ a r q k. search rules)) stable)
    c.sort_by_key.ensures.sorted

pub returns-clause-all : goal.returns-clause-all
returns-clause-all c = λ year history. lists_all year history
