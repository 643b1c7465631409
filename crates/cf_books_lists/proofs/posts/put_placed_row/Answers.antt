use Rattle.std.proofs.Common.{◌≡◌, ◌-◌, ◌∙◌, ℕ, Option, None, ap, sym, subst, slice_get}
use Rattle.cf_base.proofs.Common.{slice_get_past}
use Rattle.cf_model.specs.Common.{Entry}
use Rattle.cf_books_lists.specs.Posts.{entry_text}
use Rattle.cf_books_lists.specs.Rows.{added}
use Rattle.cf_books_lists.proofs.Adding.{added_none}
use Rattle.cf_books_lists.proofs.posts.put_placed_row.Goals as goal

pub returns-in-None : goal.returns-in-None
returns-in-None c =
    let entries = c.args.entries.now in
    let x = c.args.placed.now in
    let w = c.args.sheet.now.out in
    let none : slice_get entries (x.place - 1) ≡ None =
    ap (λ (i : ℕ). slice_get entries i) (sym c.saturating_sub.ensures) ∙ slice_get_past entries c.saturating_sub.result c.in-None.ensures.lookup.3 in
    subst (λ (e : Option Entry). w ≡ added w (entry_text w.csv c.args.filter c.args.chart.now e x)) (sym none) (added_none w)
