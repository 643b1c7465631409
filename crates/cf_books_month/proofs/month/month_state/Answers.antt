use Rattle.std.proofs.Common.{◌≡◌, ◌∙◌, ◌++◌, ap, ap₂, append_assoc, codes, List, ℕ}
use Rattle.cf_base.specs.Common.{month_of_day, month_text as text_of_month}
use Rattle.cf_model.specs.Common.{Day, is_month_closed}
use Rattle.cf_books_month.specs.Month.{month_state, state_word}
use Rattle.cf_books_month.proofs.Months.{first_is_day}
use Rattle.cf_books_month.proofs.month.month_state.Goals as goal

pub is_closed-requires : goal.is_closed-requires
is_closed-requires c = rw c.first_day.ensures (first_is_day c.args.month c.requires)

pub returns : goal.returns
unfolding month_state
returns c =
    let rest = c.args.rest.now in
    let m = c.args.month in
    let closed : c.as_bytes.result.now ≡ state_word (is_month_closed rest.plan rest.entries m) =
    c.as_bytes.ensures.value ∙ c.state_word.ensures ∙ ap state_word (c.is_closed.ensures ∙ ap (λ (d : Day). is_month_closed rest.plan rest.entries (month_of_day d)) c.first_day.ensures) in
    let begun : c.extend_from_slice.new.self.items ≡ codes "month " ++ text_of_month m =
    c.in_ok-extend_from_slice.ensures.items ∙ ap₂ (λ (a b : List ℕ). a ++ b) c.in_ok-text.ensures.items c.month_text.ensures in
    c.in_ok-extend_from_slice-2.ensures.items ∙ ap₂ (λ (a b : List ℕ). a ++ b) begun closed
    ∙ append_assoc (codes "month ") (text_of_month m) (state_word (is_month_closed rest.plan rest.entries m))
