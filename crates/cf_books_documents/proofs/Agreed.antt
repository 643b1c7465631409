-- What items have in common.
use Rattle.std.proofs.Common.{◌≡◌, ◌∙◌, ◌==◌, ℕ, Bool, if◌then◌else◌, List, Some, None, ap, sym, slice_get}
use Rattle.cf_base.proofs.Common.{list_all}
use Rattle.cf_books_documents.specs.Accounts.{agreed, shared}

pub agreed_is : {A : Type 0} (f : A → ℕ) (items : List A) (x : A) (id : ℕ) (all test : Bool) → Some x ≡ slice_get items 0 → id ≡ f x
    → all ≡ list_all (λ y. f y == id) items → all ≡ test → (if test then Some id else None) ≡ shared f items
agreed_is f items x id all test first is each taken =
    ap (λ b. if b then Some id else None) (sym taken ∙ each)
    ∙ ap (λ n. if list_all (λ y. f y == n) items then Some n else None) is
    ∙ ap (agreed f items) first
