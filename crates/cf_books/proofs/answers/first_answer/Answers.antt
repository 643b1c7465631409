use Rattle.std.proofs.Common.{option_map, subst, sym}
use Rattle.cf_books_front.specs.Front.{HasAll}
use Rattle.cf_books.proofs.Today.{none_answer, today_answer}
use Rattle.cf_books.proofs.answers.first_answer.Goals as goal

pub returns-in-Ok-clause-all : goal.returns-in-Ok-clause-all
returns-in-Ok-clause-all c =
    today_answer c.command_answer.result c.args.n (option_map (λ k. k.now) c.args.key) c.args.command c.args.bytes.now c.as_slice.result.now c.command_answer.ensures
    (subst (HasAll c.args.n c.args.bytes.now) (sym c.as_slice.ensures.value) c.in-Ok.ensures.all)

pub returns-in-Err-clause-all : goal.returns-in-Err-clause-all
returns-in-Err-clause-all c =
    none_answer c.no_front.result c.args.n (option_map (λ k. k.now) c.args.key) c.args.command c.args.bytes.now c.in-Err.why c.no_front.ensures.known c.in-Err.ensures.answer
