-- What is gathered of one entry more, and of a whole history.
use Rattle.std.proofs.Common.{◌≡◌, ℕ, ◌+◌, ◌<◌, ◌≤◌, ◌^◌, List, [], ◌∷◌, ◌++◌, length, length-append, unsigned_abs, refl, sym, ap, subst, ◌∙◌, arith, append-nil, All}
use Rattle.cf_base.proofs.Common.{AllByRecursion, flat_map-append, All-from_recursion, sum_by-append, sum_by-cons}
use Rattle.cf_journal_book.specs.Watching.{Posted, all_posted, posted_after}
use Rattle.cf_model.specs.Common.{Entry, act_posts, posts_in, Registers, no_registers, registers_of, registers_step, Adds, IsLegal}
use Rattle.cf_calls.specs.declared.read.Basis.TheVariants.{Fund as FundBasis}
use Rattle.cf_chart.specs.Common.{Plan}
use Rattle.cf_ledger.specs.declared.post.Post.{Post}
use Rattle.cf_ledger.specs.Posts.{sizes}
use Rattle.cf_model.proofs.Common.{accepted_fits, legal_push, posts_push, posts_small}
use Rattle.cf_office_rows.specs.declared.rows.LedgerRow.{LedgerRow}
use Rattle.cf_office_rows.specs.Entries.{entry_rows}
use Rattle.cf_office_rows.specs.History.{AddUp, history_rows, rows_after}
use Rattle.cf_office_rows.proofs.Totals.{adds_up}
use Rattle.cf_books_ledger.specs.Seen.{rows_by, rows_in}

pub rows_push : (plan : Plan) (seen : List Posted) (x : Posted) → rows_in plan (seen ++ x ∷ []) ≡ rows_in plan seen ++ rows_by plan x
rows_push plan seen x = flat_map-append (rows_by plan) seen (x ∷ []) ∙ ap (λ t. rows_in plan seen ++ t) (append-nil (rows_by plan x))

rows_after_are : (plan : Plan) (s : Registers) (place : ℕ) (h : List Entry) → rows_in plan (posted_after plan s place h) ≡ rows_after plan s place h
rows_after_are plan s place [] = refl
rows_after_are plan s place (e ∷ later) =
    ap (λ t. entry_rows plan s place e (act_posts FundBasis plan s e.change.on e.change.act) ++ t) (rows_after_are plan (registers_step plan s e) (place + 1) later)

-- all that was seen of a history is its rows
pub rows_are : (plan : Plan) (h : List Entry) → rows_in plan (all_posted plan h) ≡ history_rows plan h
rows_are plan h = rows_after_are plan no_registers 1 h

pub sums_are : (plan : Plan) (h : List Entry) (rows : List LedgerRow) → rows ≡ rows_in plan (all_posted plan h) → IsLegal plan h → AddUp plan h rows
sums_are plan h rows is legal = subst (AddUp plan h) (sym (is ∙ rows_are plan h)) (adds_up plan h legal)

-- each post of an accepted entry fits 128 bits
each_small : (posts : List Post) → sizes posts < 2 ^ 127 → AllByRecursion (λ (p : Post). unsigned_abs p.amount < 2 ^ 127) posts
each_small [] l = tt
each_small (p ∷ posts) l =
    let whole = sum_by-cons (λ (q : Post). unsigned_abs q.amount) p posts in
    (omega (arith, whole, l), each_small posts (omega (arith, whole, l)))

pub posts_fit : (plan : Plan) (h : List Entry) (e : Entry) → length plan.functions ≤ 64 → IsLegal plan h → Adds plan h e →
    All (λ (p : Post). unsigned_abs p.amount < 2 ^ 127) (act_posts FundBasis plan (registers_of plan h) e.change.on e.change.act)
posts_fit plan h e functions legal adds =
    let new = act_posts FundBasis plan (registers_of plan h) e.change.on e.change.act in
    let all : sizes (posts_in FundBasis plan h) + sizes new ≡ sizes (posts_in FundBasis plan (h ++ e ∷ [])) =
    sym (sum_by-append (λ (p : Post). unsigned_abs p.amount) (posts_in FundBasis plan h) new) ∙ ap sizes (sym (posts_push FundBasis plan h e)) in
    let few : length (h ++ e ∷ []) ≤ 1500000 = rw (length-append h (e ∷ [])) (omega (arith, accepted_fits plan h e adds)) in
    All-from_recursion (λ (p : Post). unsigned_abs p.amount < 2 ^ 127) new
    (each_small new (omega (arith, all, posts_small FundBasis plan (h ++ e ∷ []) functions (legal_push plan h e legal adds), few)))
