use Rattle.std.proofs.Common.{◌≡◌, ◌++◌, ◌∙◌, List, ℕ, ap, append_assoc}
use Rattle.cf_base.proofs.Common.{on_ok_weaker}
use Rattle.cf_books_grants.proofs.faults.put_fault.Goals as goal

two_texts : (out a b x y : List ℕ) → a ≡ out ++ x → b ≡ a ++ y → b ≡ out ++ (x ++ y)
two_texts out a b x y p q = q ∙ ap (λ t. t ++ y) p ∙ append_assoc out x y

pub returns-in_ok-put_row-in-Twice : goal.returns-in_ok-put_row-in-Twice
returns-in_ok-put_row-in-Twice c =
    rw c.in-Twice.is (on_ok_weaker c.put_text.result (two_texts _ _ _ _ _ c.in_ok-put_row-in-Twice.ensures) c.put_text.ensures)
