use Rattle.std.proofs.Common.{rules, ◌≡◌, ◌∙◌, ap, Bool, ℕ, List, ◌++◌}
use Rattle.cf_base.proofs.Common.{IfOk-weaker}
use Rattle.cf_model.specs.Common.{registers_of}
use Rattle.cf_books_lists.specs.Open.{closes_text, head, section_text}
use Rattle.cf_books_lists.specs.declared.open.Section.TheVariants.{Requisitions, Orders, Bills, Vouchers, Debts}
use Rattle.cf_books_lists.specs.declared.open.Section.{Section}
use Rattle.cf_books_lists.specs.Records.{head_text}
use Rattle.cf_books_lists.specs.Rows.{Written, added, none_written}
use Rattle.cf_books_lists.proofs.Adding.{added_two}
use Rattle.cf_books_lists.proofs.open.all_text.Goals as goal

pub returns : goal.returns
returns c =
    let rest = c.args.rest.now in
    let csv = c.args.layout.csv in
    let names : Bool → List ℕ = λ b. head_text b head in
    let section : Section → Bool → List ℕ = λ s b. section_text b rest.plan (registers_of rest.plan rest.entries) s rest.entries in
    let closes : Bool → List ℕ = λ b. closes_text b rest.entries in
    let w0 = c.new-out.result in
    let w1 = c.put_head.new.out in
    let w2 = c.put_section.new.out in
    let w3 = c.put_section-2.new.out in
    let w4 = c.put_section-3.new.out in
    let w5 = c.put_section-4.new.out in
    let w6 = c.put_section-5.new.out in
    let w7 = c.put_closes.new.out in
    let p1 : w1 ≡ added w0 (names w0.csv) = search rules in
    let p2 : w2 ≡ added w1 (section Requisitions w1.csv) = search rules in
    let p3 : w3 ≡ added w2 (section Orders w2.csv) = search rules in
    let p4 : w4 ≡ added w3 (section Bills w3.csv) = search rules in
    let p5 : w5 ≡ added w4 (section Vouchers w4.csv) = search rules in
    let p6 : w6 ≡ added w5 (section Debts w5.csv) = search rules in
    let p7 : w7 ≡ added w6 (closes w6.csv) = search rules in
    let from6 : Bool → List ℕ = λ b. section Debts b ++ closes b in
    let from5 : Bool → List ℕ = λ b. section Vouchers b ++ from6 b in
    let from4 : Bool → List ℕ = λ b. section Bills b ++ from5 b in
    let from3 : Bool → List ℕ = λ b. section Orders b ++ from4 b in
    let from2 : Bool → List ℕ = λ b. section Requisitions b ++ from3 b in
    let all : Bool → List ℕ = λ b. names b ++ from2 b in
    let q5 : w7 ≡ added w5 (from6 w5.csv) = added_two (section Debts) closes w5 w6 w7 p6 p7 in
    let q4 : w7 ≡ added w4 (from5 w4.csv) = added_two (section Vouchers) from6 w4 w5 w7 p5 q5 in
    let q3 : w7 ≡ added w3 (from4 w3.csv) = added_two (section Bills) from5 w3 w4 w7 p4 q4 in
    let q2 : w7 ≡ added w2 (from3 w2.csv) = added_two (section Orders) from4 w2 w3 w7 p3 q3 in
    let q1 : w7 ≡ added w1 (from2 w1.csv) = added_two (section Requisitions) from3 w1 w2 w7 p2 q2 in
    let q0 : w7 ≡ added w0 (all w0.csv) = added_two names from2 w0 w1 w7 p1 q1 in
    let start : w0 ≡ none_written csv = c.new-out.ensures in
    IfOk-weaker c.into_text.result _ _ (λ bytes is. is ∙ ap (λ (w : Written). w.text) (q0 ∙ ap (λ (w : Written). added w (all w.csv)) start)) c.into_text.ensures
