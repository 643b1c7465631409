use Rattle.std.proofs.Common.{◌≡◌, ◌∙◌, ap, decimal, [], ◌∷◌, List, ℕ, map}
use Rattle.cf_base.proofs.Common.{on_ok_weaker}
use Rattle.cf_base.specs.Common.{money_of, day_text}
use Rattle.cf_json_calls.specs.CallText.{call_word}
use Rattle.cf_chart.specs.Common.{fund_at}
use Rattle.cf_books_lists.specs.Names.{account_text, basis_word, fund_name}
use Rattle.cf_books_lists.specs.Posts.{post_row}
use Rattle.cf_books_lists.specs.Records.{drawn_text, record_text}
use Rattle.cf_books_lists.specs.Rows.{Written, added}
use Rattle.cf_books_lists.proofs.posts.put_post.Goals as goal

pub returns : goal.returns
returns c =
    let e = c.args.entry.now in
    let p = c.args.post.now in
    let plan = c.args.chart.now in
    let at : c.digits.result.now ≡ decimal c.args.place = c.digits.ensures in
    let day : c.as_slice.result.now ≡ day_text e.change.on = c.as_slice.ensures ∙ c.day_text-day.ensures in
    let desk : c.digits-2.result.now ≡ decimal e.change.desk = c.digits-2.ensures in
    let key : c.as_bytes.result.now ≡ e.change.key = c.as_bytes.ensures.value ∙ c.as_str.ensures in
    let call : c.call_bytes.result.now ≡ call_word e.change.act = c.call_bytes.ensures in
    let number : c.drawn_digits.result.now ≡ drawn_text e.drawn.number = c.drawn_digits.ensures in
    let basis : c.basis_bytes.result.now ≡ basis_word c.args.basis = c.basis_bytes.ensures in
    let year : c.digits-3.result.now ≡ decimal p.year = c.digits-3.ensures in
    let fund : c.digits-4.result.now ≡ decimal p.fund = c.digits-4.ensures in
    let fund_is : c.as_bytes-2.result.now ≡ fund_name (fund_at plan p.fund) = c.as_bytes-2.ensures.value ∙ c.fund_name.ensures ∙ ap fund_name c.fund.ensures in
    let account : c.digits-5.result.now ≡ decimal p.account = c.digits-5.ensures in
    let name : c.as_slice-2.result.now ≡ account_text plan p.account = c.as_slice-2.ensures.value ∙ c.in_ok-make_texts.ensures.name in
    let amount : c.as_slice-3.result.now ≡ money_of p.amount = c.as_slice-3.ensures.value ∙ c.in_ok-make_texts.ensures.amount in
    let row : map (λ f. f.now) c.as_slice-4.result.now ≡ post_row plan c.args.place e c.args.basis p =
    ap (map (λ f. f.now)) c.as_slice-4.ensures
    ∙ (λ i. at i ∷ day i ∷ desk i ∷ key i ∷ call i ∷ number i ∷ basis i ∷ year i ∷ fund i ∷ fund_is i ∷ account i ∷ name i ∷ amount i ∷ []) in
    let out = c.args.sheet.now.out in
    on_ok_weaker c.put.result
    (λ wrote. wrote ∙ ap (λ (w : Written). added w (record_text w.csv (map (λ f. f.now) c.as_slice-4.result.now))) c.make_texts.ensures.out ∙ ap (λ (fields : List (List ℕ)). added out (record_text out.csv fields)) row) c.put.ensures
