use Rattle.std.proofs.Common.{◌≡◌, ◌++◌, ◌∙◌, ap}
use Rattle.cf_base.proofs.Common.{on_ok_weaker}
use Rattle.cf_books.specs.Summary.{level_word}
use Rattle.cf_books.proofs.Steps.{three_texts}
use Rattle.cf_books.proofs.summary.put_later.Goals as goal

pub returns-in_ok-extend_from_slice-in-Some : goal.returns-in_ok-extend_from_slice-in-Some
returns-in_ok-extend_from_slice-in-Some c =
    let word : c.as_bytes.result.now ≡ level_word c.in-Some.later.level = c.as_bytes.ensures.value ∙ c.level_word.ensures in
    let named = c.in_ok-extend_from_slice-in-Some.ensures.items ∙ ap (λ t. c.put_between.new.out.items ++ t) word in
    rw c.in-Some.is
    (on_ok_weaker c.put_between-in-Some.result
    (three_texts c.args.out.now.items c.put_between.new.out.items c.extend_from_slice.new.self.items c.put_between-in-Some.new.out.items _ (level_word c.in-Some.later.level) _
    c.in_ok-put_between-in-Some.ensures named)
    c.put_between-in-Some.ensures)
