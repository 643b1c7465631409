-- Which documents are wanted.
use Rattle.std.specs.Prelude.{ℕ, ◌-◌, ◌==◌, ◌&&◌, ◌||◌, Bool, true, if◌then◌else◌, List, [], ◌∷◌, Option, Some, None, fold, slice_get, ℤ, pos}
use Rattle.std.specs.List.{starts_with}
use Rattle.std.specs.Ordering.{int_eq}
use Rattle.cf_model.specs.Common.{Entry}
use Rattle.cf_books_documents.specs.Events.{is_payment}
use Rattle.cf_books_documents.specs.Facts.{is_kind}
use Rattle.cf_books_documents.specs.Texts.{run_text}
use Rattle.cf_books_lists.specs.Posts.{is_asked}
use Rattle.cf_books_documents.specs.declared.event.Event.{Event}
use Rattle.cf_books_documents.specs.declared.facts.Facts.{Facts}
use Rattle.cf_books_words.specs.declared.words.DocumentFilter.{DocumentFilter}
use Rattle.cf_books_words.specs.declared.words.DocumentKind.{DocumentKind}

-- the last payment or collection among what entries did
abbrev pub payment_after : ℕ → Event → ℕ
payment_after before v = if is_payment v.deed then v.place else before

abbrev pub payment_place : List Event → ℕ
payment_place events = fold payment_after 0 events

abbrev pub payment_of : List Entry → List Event → Option Entry
payment_of history events = if payment_place events == 0 then None
    else slice_get history (payment_place events - 1)

-- a text stands anywhere in another
abbrev pub has_within : List ℕ → List ℕ → Bool
has_within part [] = starts_with ◌==◌ [] part
has_within part (b ∷ text) = starts_with ◌==◌ (b ∷ text) part || has_within part text

abbrev pub is_kind_asked : Option DocumentKind → DocumentKind → Bool
is_kind_asked None kind = true
is_kind_asked (Some asked) kind = is_kind asked kind

abbrev pub is_amount_asked : Option ℕ → ℤ → Bool
is_amount_asked None amount = true
is_amount_asked (Some asked) amount = int_eq (pos asked) amount

-- in the key of the entry, or in that of its payment
abbrev pub is_key_asked : Option (List ℕ) → Entry → Option Entry → Bool
is_key_asked None e payment = true
is_key_asked (Some part) e payment = has_within part e.change.key
    || has_within part (run_text payment)

abbrev pub is_wanted : DocumentFilter → Option (List ℕ) → Facts → Entry → Option Entry → Bool
is_wanted filter key f e payment = is_kind_asked filter.kind f.kind
    && (is_asked filter.party f.party
    && (is_amount_asked filter.amount f.amount && is_key_asked key e payment))
