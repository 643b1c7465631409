-- A loop over the rows of a document: a row that was read, before those that follow it.
use Rattle.std.proofs.Common.{◌≡◌, ◌∙◌, ℕ, suc, ◌+◌, ◌<◌, List, [], ◌∷◌, ◌++◌, length, get_or, drop, drop-cons, add-one, Ok, ap, sym}
use Rattle.toml.specs.Data.{Data}
use Rattle.toml.specs.View.{view, items_view}
use Rattle.toml.specs.declared.value.Value.{Value}
use Rattle.cf_chart.specs.Common.{Checked, ◌>>=◌, new_line, new_row, lines_after, rows_after, placed}
use Rattle.cf_chart.specs.declared.fault.Place.{Place}
use Rattle.cf_chart.specs.declared.fault.TableName.{TableName}
use Rattle.cf_chart.specs.declared.rows.Line.{Line}

next_value : (vs : List Value) (i : ℕ) (v : Value) → i < length vs → v ≡ get_or vs i v → drop i vs ≡ v ∷ drop (i + 1) vs
next_value vs i v l is = rw (add-one i) (drop-cons vs i v l ∙ ap (λ w. w ∷ drop (suc i) vs) (sym is))

pub next_line : (row : Place → Data → Checked Line) (vs : List Value) (i : ℕ) (v : Value) (done more : List Line) (r : Line) (all : Checked (List Line)) → i < length vs → v ≡ get_or vs i v
    → new_line row done (view v) ≡ Ok r → more ≡ done ++ r ∷ [] → all ≡ lines_after row done (items_view (drop i vs)) → all ≡ lines_after row more (items_view (drop (i + 1) vs))
next_line row vs i v done more r all l is read pushed inv =
    inv ∙ ap (λ ws. lines_after row done (items_view ws)) (next_value vs i v l is)
    ∙ ap (λ x. x >>= (λ y. lines_after row (done ++ y ∷ []) (items_view (drop (i + 1) vs)))) read
    ∙ ap (λ ls. lines_after row ls (items_view (drop (i + 1) vs))) (sym pushed)

pub next_row : {A : Type 0} (name : TableName) (id : A → ℕ) (row : Place → Data → Checked A) (vs : List Value) (i : ℕ) (v : Value) (done more : List A) (r : A) (all : Checked (List A)) → i < length vs
    → v ≡ get_or vs i v → new_row name id row done (view v) ≡ Ok r → more ≡ placed id r done → all ≡ rows_after name id row done (items_view (drop i vs))
    → all ≡ rows_after name id row more (items_view (drop (i + 1) vs))
next_row name id row vs i v done more r all l is read put inv =
    inv ∙ ap (λ ws. rows_after name id row done (items_view ws)) (next_value vs i v l is)
    ∙ ap (λ x. x >>= (λ y. rows_after name id row (placed id y done) (items_view (drop (i + 1) vs)))) read
    ∙ ap (λ ls. rows_after name id row ls (items_view (drop (i + 1) vs))) (sym put)
