use Rattle.std.proofs.Common.{◌≡◌, ◌∙◌, List, ℕ, ap, sym, subst}
use Rattle.cf_base.proofs.Common.{Appends}
use Rattle.cf_base_lines.specs.Sinks.{Wrote}
use Rattle.cf_books.specs.Answers.{AreLeft, IsBeside, reads_journal, said_with}
use Rattle.cf_books_words.specs.Words.{asks}
use Rattle.cf_books.proofs.Ends.{Fits, are_left, few, fit_with, gave_ends}
use Rattle.cf_books.proofs.running.run.Goals as goal

pub returns-in-Ok-write_all-clause-ends : goal.returns-in-Ok-write_all-clause-ends
returns-in-Ok-write_all-clause-ends g c =
    let left = g.S.Source.left c.args.source.now in
    let beside = g.J.Source.left c.args.journal.now in
    let held = g.K.Sink.held c.args.out.now in
    let held' = g.K.Sink.held c.write_all.new.sink in
    let bytes = c.as_slice.result.now in
    let journal = c.as_slice-2.result.now in
    let answer = c.in-Ok-answer_of.ensures.answer in
    let out : (said_with (asks c.args.request) bytes journal).out ≡ c.as_slice-3.result.now = ap (λ x. x.out) answer ∙ sym c.as_slice-3.ensures.value in
    gave_ends (asks c.args.request) left beside held held' c.in-Ok-answer_of.answer.status
    (record {
      inputs = record {
        bytes = bytes;
        journal = journal;
        all = subst (AreLeft left) (sym c.as_slice.ensures.value) (are_left _ left _ _ c.in-Ok.ensures.ok (few c.in-Ok.bytes));
        whole = subst (IsBeside (reads_journal c.args.request.command) beside) (sym c.as_slice-2.ensures.value) c.in-Ok-read_beside.ensures.ok;
      };
      is = ap (λ x. x.status) answer;
      put = subst (λ (t : List ℕ). Appends held held' t) (sym out) c.in-Ok-write_all.ensures.ok;
    })

pub returns-clause-ends : goal.returns-clause-ends
returns-clause-ends g c =
    let left = g.S.Source.left c.args.source.now in
    let beside = g.J.Source.left c.args.journal.now in
    let held = g.K.Sink.held c.args.out.now in
    let held' = g.K.Sink.held c.write_all.new.sink in
    let bytes = c.as_slice.result.now in
    let journal = c.as_slice-2.result.now in
    let answer = c.in-Ok-answer_of.ensures.answer in
    let out : (said_with (asks c.args.request) bytes journal).out ≡ c.as_slice-3.result.now = ap (λ x. x.out) answer ∙ sym c.as_slice-3.ensures.value in
    let front = c.in-Err.ensures.err in
    record {
      inputs = record {
        bytes = bytes;
        journal = journal;
        all = subst (AreLeft left) (sym c.as_slice.ensures.value) (are_left _ left _ _ c.in-Ok.ensures.ok (few c.in-Ok.bytes));
        whole = subst (IsBeside (reads_journal c.args.request.command) beside) (sym c.as_slice-2.ensures.value) c.in-Ok-read_beside.ensures.ok;
      };
      rest = front.0;
      put = subst (λ (t : List ℕ). Wrote held held' t front.0) (sym out) front.1;
    }

pub returns-in-Ok-write_all-clause-read : goal.returns-in-Ok-write_all-clause-read
returns-in-Ok-write_all-clause-read g c = λ e.
    let bytes = c.as_slice.result.now in
    let journal = c.as_slice-2.result.now in
    absurd (subst (Fits (said_with (asks c.args.request) bytes journal).out) (ap (λ x. x.status) c.in-Ok-answer_of.ensures.answer ∙ e) (fit_with (asks c.args.request) bytes journal))

pub returns-in-Ok-write_all-clause-write : goal.returns-in-Ok-write_all-clause-write
returns-in-Ok-write_all-clause-write g c = λ e.
    let bytes = c.as_slice.result.now in
    let journal = c.as_slice-2.result.now in
    absurd (subst (Fits (said_with (asks c.args.request) bytes journal).out) (ap (λ x. x.status) c.in-Ok-answer_of.ensures.answer ∙ e) (fit_with (asks c.args.request) bytes journal))
