-- What is dated through a day, of one entry more.
use Rattle.std.proofs.Common.{◌≡◌, ℕ, ◌+◌, cond, List, [], ◌∷◌, ◌++◌, sym, ap, ◌∙◌}
use Rattle.cf_base.proofs.Common.{filter-append}
use Rattle.cf_model.specs.Common.{Day}
use Rattle.cf_journal_book.specs.Watching.{Posted}
use Rattle.cf_budget.specs.Tables.{row_plus}
use Rattle.cf_budget.proofs.Rows.{plus_regroup, plus_zero, zero_plus}
use Rattle.cf_chart.specs.Common.{Plan}
use Rattle.cf_registers.specs.Moved.{moved_by}
use Rattle.cf_books_days.specs.Through.{dated_through, is_through, moved_in}

abbrev pub if_through : Day → Posted → List Posted
if_through day x = cond (is_through day x.entry.change.on) (x ∷ []) []

-- it is among those through a day where it is dated so
pub through_push : (day : Day) (seen : List Posted) (x : Posted) → dated_through day (seen ++ x ∷ []) ≡ dated_through day seen ++ if_through day x
through_push day seen x = filter-append (λ (y : Posted). is_through day y.entry.change.on) seen (x ∷ [])

pub moved_append : (plan : Plan) (line year : ℕ) (xs ys : List Posted) → moved_in plan line year (xs ++ ys) ≡ row_plus (moved_in plan line year xs) (moved_in plan line year ys)
moved_append plan line year [] ys = sym (zero_plus (moved_in plan line year ys))
moved_append plan line year (x ∷ xs) ys =
    let own = moved_by plan x.before x.entry.change.on x.entry.change.act line year in
    ap (row_plus own) (moved_append plan line year xs ys) ∙ plus_regroup own (moved_in plan line year xs) (moved_in plan line year ys)

pub moved_one : (plan : Plan) (line year : ℕ) (x : Posted) → moved_in plan line year (x ∷ []) ≡ moved_by plan x.before x.entry.change.on x.entry.change.act line year
moved_one plan line year x = plus_zero (moved_by plan x.before x.entry.change.on x.entry.change.act line year)
