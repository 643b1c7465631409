-- The account of a document's items: what they have in common.
use Rattle.std.specs.Prelude.{ℕ, ◌==◌, if◌then◌else◌, List, Option, Some, None, slice_get}
use Rattle.std.specs.List.{list_all}
use Rattle.cf_model.specs.Common.{AccountItem}
use Rattle.cf_books_documents.specs.declared.accounts.Part.{Part}
use Rattle.cf_books_documents.specs.declared.accounts.Part.TheVariants.{Fund, Dept, Object}
use Rattle.cf_books_documents.specs.declared.facts.Account.{Account}

abbrev pub part_of : Part → AccountItem → ℕ
part_of Fund a = a.fund
part_of Dept a = a.dept
part_of Object a = a.object

-- the number that all items have, where they have one
abbrev pub agreed : {A : Type 0} → (A → ℕ) → List A → Option A → Option ℕ
agreed f items None = None
agreed f items (Some first) = if list_all (λ x. f x == f first) items then Some (f first) else None

abbrev pub shared : {A : Type 0} → (A → ℕ) → List A → Option ℕ
shared f items = agreed f items (slice_get items 0)

abbrev pub common : {A : Type 0} → (A → AccountItem) → List A → Account
common account items = record {
  fund = shared (λ i. part_of Fund (account i)) items;
  dept = shared (λ i. part_of Dept (account i)) items;
  object = shared (λ i. part_of Object (account i)) items;
}

abbrev pub alone : AccountItem → Account
alone a = record { fund = Some a.fund; dept = Some a.dept; object = Some a.object }

abbrev pub of_fund : ℕ → Account
of_fund fund = record { fund = Some fund; dept = None; object = None }
