use Rattle.std.proofs.Common.{◌++◌, ◌∙◌, codes, decimal, ap, append_assoc}
use Rattle.cf_base.proofs.Common.{on_ok_weaker}
use Rattle.cf_books.proofs.Steps.{two_texts}
use Rattle.cf_books.proofs.notices.put_fault.Goals as goal

pub returns-in_ok-put_between-in-Window : goal.returns-in_ok-put_between-in-Window
returns-in_ok-put_between-in-Window c =
    let days = decimal c.in-Window.days ++ codes " days" in
    rw c.in-Window.is
    (on_ok_weaker c.put_between-in-Window-2.result
    (λ e. two_texts c.args.out.now.items _ _ (codes "source " ++ (decimal c.in-Window.source ++ codes " has a window of ")) days c.in_ok-put_between-in-Window.ensures e
    ∙ ap (λ t. c.args.out.now.items ++ (codes "source " ++ t)) (append_assoc (decimal c.in-Window.source) (codes " has a window of ") days))
    c.put_between-in-Window-2.ensures)

pub returns-in-General : goal.returns-in-General
returns-in-General c = rw c.in-General.is c.put_between-in-General.ensures
