-- A loop over the rows of the grants: a row that was read, before those that follow it.
use Rattle.std.proofs.Common.{◌≡◌, ◌∙◌, ℕ, suc, ◌+◌, ◌<◌, List, [], ◌∷◌, ◌++◌, length, get_or, drop, drop-cons, add-one, Ok, ap, sym}
use Rattle.toml.specs.View.{view, items_view}
use Rattle.toml.specs.declared.value.Value.{Value}
use Rattle.cf_chart.specs.Common.{Plan}
use Rattle.cf_grants.specs.Faults.{Checked, ◌>>=◌}
use Rattle.cf_grants.specs.declared.grant.Grant.{Grant}
use Rattle.cf_grants.specs.Reading.{new_grant, grants_after}

next_value : (vs : List Value) (i : ℕ) (v : Value) → i < length vs → v ≡ get_or vs i v → drop i vs ≡ v ∷ drop (i + 1) vs
next_value vs i v l is = rw (add-one i) (drop-cons vs i v l ∙ ap (λ w. w ∷ drop (suc i) vs) (sym is))

pub next_grant : (plan : Plan) (vs : List Value) (i : ℕ) (v : Value) (done more : List Grant) (g : Grant) (all : Checked (List Grant)) → i < length vs → v ≡ get_or vs i v
    → new_grant plan done (view v) ≡ Ok g → more ≡ done ++ g ∷ [] → all ≡ grants_after plan done (items_view (drop i vs)) → all ≡ grants_after plan more (items_view (drop (i + 1) vs))
next_grant plan vs i v done more g all l is read pushed inv =
    inv ∙ ap (λ ws. grants_after plan done (items_view ws)) (next_value vs i v l is)
    ∙ ap (λ x. x >>= (λ y. grants_after plan (done ++ y ∷ []) (items_view (drop (i + 1) vs)))) read
    ∙ ap (λ gs. grants_after plan gs (items_view (drop (i + 1) vs))) (sym pushed)
