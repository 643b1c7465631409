-- Events by number, entry by entry.
use Rattle.std.proofs.Common.{◌≡◌, ◌∙◌, ◌+◌, ◌==◌, ℕ, List, ◌∷◌, ◌++◌, ap, sym, append_assoc, Option}
use Rattle.cf_base.proofs.Common.{filter-append}
use Rattle.cf_model.specs.Common.{Entry}
use Rattle.cf_chart.specs.Common.{Plan}
use Rattle.cf_books_documents.specs.Events.{events_by, events_from, lent_after}
use Rattle.cf_books_documents.specs.Indexed.{numbered}
use Rattle.cf_books_documents.specs.declared.event.Event.{Event}

-- what an entry does is added behind what those before it did
pub entry_more : (plan : Plan) (vouchers : ℕ → Option Entry) (lent lent' : ℕ → ℕ → ℕ) (place n : ℕ) (e : Entry) (entries later : List Entry) (old new all : List Event)
    → entries ≡ e ∷ later → ((from to : ℕ) → lent' from to ≡ lent_after e.change.act place lent from to)
    → new ≡ old ++ numbered n (events_by plan vouchers lent place e.drawn e.change.act)
    → old ++ numbered n (events_from plan vouchers lent place entries) ≡ all
    → new ++ numbered n (events_from plan vouchers lent' (place + 1) later) ≡ all
entry_more plan vouchers lent lent' place n e entries later old new all split next put rest =
    let here = events_by plan vouchers lent place e.drawn e.change.act in
    let behind : (ℕ → ℕ → ℕ) → List Event = λ l. events_from plan vouchers l (place + 1) later in
    let same : lent' ≡ lent_after e.change.act place lent = λ i. λ from to. next from to i in
    ap (λ l. new ++ numbered n (behind l)) same
    ∙ ap (λ x. x ++ numbered n (behind (lent_after e.change.act place lent))) put
    ∙ append_assoc old (numbered n here) (numbered n (behind (lent_after e.change.act place lent)))
    ∙ ap (λ x. old ++ x) (sym (filter-append (λ (v : Event). v.number == n) here (behind (lent_after e.change.act place lent))))
    ∙ ap (λ x. old ++ numbered n (events_from plan vouchers lent place x)) (sym split)
    ∙ rest
