-- A text within another, place by place.
use Rattle.std.proofs.Common.{◌≡◌, ◌∙◌, ◌<◌, ◌+◌, ◌-◌, ◌==◌, ◌||◌, ℕ, Bool, false, List, ◌∷◌, length, take, drop, get_or, sym, ap, add-one, drop-cons}
use Rattle.cf_base.proofs.Common.{take_rest, starts_with}
use Rattle.cf_books_documents.specs.Wanted.{has_within}

pub within_more : (part text : List ℕ) (at : ℕ) → at < length text → starts_with ◌==◌ (take (length text - at) (drop at text)) part ≡ false → has_within part (drop (at + 1) text) ≡ has_within part (drop at text)
within_more part text at below none =
    let rest = drop (at + 1) text in
    let split : drop at text ≡ get_or text at 0 ∷ rest = rw add-one (drop-cons text at 0 below) in
    let first : starts_with ◌==◌ (get_or text at 0 ∷ rest) part ≡ false = ap (λ (x : List ℕ). starts_with ◌==◌ x part) (sym split ∙ sym (take_rest text at)) ∙ none in
    sym (ap (has_within part) split ∙ ap (λ (b : Bool). b || has_within part rest) first)
