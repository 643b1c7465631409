use Rattle.std.proofs.Common.{◌≡◌, ◌∙◌, ◌++◌, ap, Bool, ℕ, ℤ, List, None}
use Rattle.cf_base.proofs.Common.{IfOk-weaker}
use Rattle.cf_books_lists.specs.Records.{head_text}
use Rattle.cf_books_lists.specs.Rows.{Written, added, none_written}
use Rattle.cf_books_lists.proofs.Adding.{added_two}
use Rattle.cf_books_payments.specs.Entering.{sum_at}
use Rattle.cf_books_payments.specs.Paid.{by_vendor, paid_in, paid_to}
use Rattle.cf_books_year.specs.Paid.{head, rows_text, totals_in}
use Rattle.cf_books_year.proofs.paid.text_of.Goals as goal

pub returns : goal.returns
returns c =
    let entries = c.args.entries.now in
    let year = c.args.year in
    let paid = paid_in year entries in
    let sums : ℕ → ℤ = totals_in year entries in
    let rows = c.in_ok-rows.ensures.rows in
    let totals : sum_at c.in_ok-totals.totals ≡ sums = λ i v. (c.in_ok-totals.ensures v ∙ ap (paid_to v) (c.as_slice.ensures.value ∙ rows)) i in
    let sorted : c.as_slice-2.result.now ≡ by_vendor paid = c.as_slice-2.ensures.value ∙ c.in_ok-by_vendor.ensures.sorted ∙ ap by_vendor rows in
    let names : Bool → List ℕ = λ b. head_text b head in
    let below : Bool → List ℕ = λ b. rows_text b entries sums None (by_vendor paid) in
    let empty = c.new-out.result in
    let named = c.put_head.new.out in
    let all = c.put_rows.new.out in
    let second : all ≡ added named (below named.csv) =
    c.in_ok-put_rows.ensures ∙ ap (λ (t : ℕ → ℤ). added named (rows_text named.csv entries t None c.as_slice-2.result.now)) totals
    ∙ ap (λ ps. added named (rows_text named.csv entries sums None ps)) sorted in
    let wrote : all ≡ added empty (names empty.csv ++ below empty.csv) = added_two names below empty named all c.in_ok-put_head.ensures second in
    let from : empty ≡ none_written c.args.layout.csv = c.new-out.ensures in
    IfOk-weaker c.into_text.result _ _ (λ bytes is. is ∙ ap (λ (w : Written). w.text) (wrote ∙ ap (λ (w : Written). added w (names w.csv ++ below w.csv)) from)) c.into_text.ensures
