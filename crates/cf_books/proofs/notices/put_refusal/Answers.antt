use Rattle.std.proofs.Common.{◌∙◌, [], ◌∷◌, ◌++◌, ◌-◌, ap, sym, codes, decimal, slice_index_or}
use Rattle.cf_base.proofs.Common.{on_ok_weaker}
use Rattle.cf_calls.specs.Common.{refusal_names}
use Rattle.cf_books.proofs.Steps.{refusal_is, regrouped, two_texts}
use Rattle.cf_books.proofs.notices.put_refusal.Goals as goal

pub returns : goal.returns
returns c =
    let out = c.args.out.now.items in
    let n = c.args.number in
    let text = regrouped (codes " is refused: ") (decimal n) (32 ∷ []) (slice_index_or refusal_names (n - 1) []) ∙ sym (refusal_is n c.if-number-eq0.false) in
    on_ok_weaker c.put_text.result
    (λ put. two_texts out _ _ _ _ c.in_ok-put_between.ensures put ∙ ap (λ t. out ++ ((codes " is refused: " ++ (decimal n ++ 32 ∷ [])) ++ t)) c.refusal_name.ensures.value ∙ ap (λ t. out ++ t) text)
    c.put_text.ensures
