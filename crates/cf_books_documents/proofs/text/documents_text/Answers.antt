use Rattle.std.proofs.Common.{rules, ◌≡◌, ◌∙◌, ap, sym, subst, Bool, ℕ, List, ◌++◌, option_map}
use Rattle.cf_base.proofs.Common.{IfOk-weaker, AllByRecursion}
use Rattle.cf_model.specs.Common.{Entry, Registers, registers_of}
use Rattle.cf_chart.specs.Common.{Plan}
use Rattle.cf_books_documents.specs.Dated.{IsDated}
use Rattle.cf_books_documents.specs.Indexed.{Known}
use Rattle.cf_books_documents.specs.KnownIn.{known_in}
use Rattle.cf_books_lists.specs.Records.{head_text}
use Rattle.cf_books_lists.specs.Rows.{Written, added, none_written}
use Rattle.cf_books_documents.specs.Text.{head, kinds, kinds_text}
use Rattle.cf_books_documents.specs.Told.{told_of}
use Rattle.cf_books_lists.proofs.Adding.{added_two}
use Rattle.cf_books_documents.proofs.Dating.{legal_dated}
use Rattle.cf_books_documents.proofs.text.documents_text.Goals as goal

pub told_of-requires : goal.told_of-requires
told_of-requires c = subst (AllByRecursion IsDated) (sym c.entries-entries.ensures.value) (legal_dated c.args.rest.now.plan c.args.rest.now.entries c.entries-entries.ensures.legal)

pub put_kinds-requires : goal.put_kinds-requires
put_kinds-requires c = subst (AllByRecursion IsDated) (sym c.entries-entries.ensures.value) (legal_dated c.args.rest.now.plan c.args.rest.now.entries c.entries-entries.ensures.legal)

pub returns-clause-text : goal.returns-clause-text
returns-clause-text c =
    let plan = c.args.rest.now.plan in
    let history = c.args.rest.now.entries in
    let csv = c.args.layout.csv in
    let filter = c.args.filter in
    let key = option_map (λ t. t.now) c.args.key in
    let w0 = c.new-out.result in
    let w1 = c.put_head.new.out in
    let w2 = c.put_kinds.new.out in
    let put : Bool → Plan → Registers → Known → List Entry → List ℕ = λ b p s t h. kinds_text b filter key p s t h h kinds in
    let entries : c.entries-entries.result.now ≡ history = c.entries-entries.ensures.value in
    let told : known_in c.in_ok-told.told ≡ told_of plan history = c.in_ok-told.ensures ∙ ap (λ (p : Plan). told_of p c.entries-entries.result.now) c.chart.ensures.value ∙ ap (told_of plan) entries in
    let all : Bool → List ℕ = λ b. put b plan (registers_of plan history) (told_of plan history) history in
    let names : Bool → List ℕ = λ b. head_text b head in
    let p1 : w1 ≡ added w0 (names w0.csv) = search rules in
    let p2 : w2 ≡ added w1 (all w1.csv) =
    c.in_ok-put_kinds.ensures
    ∙ ap (λ (p : Plan). added w1 (put w1.csv p c.registers.result.now.registers (known_in c.in_ok-told.told) c.entries-entries.result.now)) c.chart-2.ensures.value
    ∙ ap (λ (s : Registers). added w1 (put w1.csv plan s (known_in c.in_ok-told.told) c.entries-entries.result.now)) c.registers.ensures
    ∙ ap (λ (t : Known). added w1 (put w1.csv plan (registers_of plan history) t c.entries-entries.result.now)) told
    ∙ ap (λ (h : List Entry). added w1 (put w1.csv plan (registers_of plan history) (told_of plan history) h)) entries in
    let both : w2 ≡ added w0 (names w0.csv ++ all w0.csv) = added_two names all w0 w1 w2 p1 p2 in
    let start : w0 ≡ none_written csv = c.new-out.ensures in
    IfOk-weaker c.into_text.result _ _
    (λ bytes is. is ∙ ap (λ (w : Written). w.text) (both ∙ ap (λ (w : Written). added w (names w.csv ++ all w.csv)) start)) c.into_text.ensures
