-- Stripes at rest, and stripes that were taken and owe nothing.
use Rattle.std.proofs.Common.{◌≡◌, ℕ, ◌<◌, true, false, List, [], Option, Some, None, is_some, refl, sym, ap, subst, ◌∙◌, unwrap_or}
use Rattle.atomic_table.specs.Seated.{TableId}
use Rattle.cf_budget.specs.Tables.{Table, Tables, table_of, row_at, row_in, zero_row, value_on}
use Rattle.cf_budget.proofs.Rows.{plus_zero}
use Rattle.cf_chart.specs.Common.{Plan}
use Rattle.cf_model.specs.Common.{stripe_of}
use Rattle.cf_turns.specs.States.{PassState}
use Rattle.cf_hall_names.specs.Lists.{tie_at}
use Rattle.cf_hall.specs.Standing.{IsStripe}
use Rattle.cf_hall.specs.TakenState.{IsTakenStripe, AreTakenStripes}

-- the row of a line is that of its stripe's table
row_there : (lines : Tables) (k : ℕ) (rows : Table) (line year : ℕ) → table_of lines k ≡ Some rows → stripe_of line ≡ k → row_at lines line year ≡ row_in rows line year
row_there lines k rows line year is at = ap (λ (o : Option Table). unwrap_or (value_on o line year) zero_row) (ap (table_of lines) at ∙ is)

module _ (table : TableId) (plan : Plan) where
  taken_one : (lines : Tables) (k : ℕ) (o : Option Table) (t : Option PassState) → table_of lines k ≡ o → IsStripe table plan k o t → (p : PassState) → t ≡ Some p → IsTakenStripe table plan k lines [] p
  taken_one lines k None None is s p at = cc
  taken_one lines k None (Some q) is s p at = absurd s
  taken_one lines k (Some rows) None is s p at = absurd s
  taken_one lines k (Some rows) (Some q) is s p at =
      let same : q ≡ p = cc in
      subst (IsTakenStripe table plan k lines []) same (record {
        own = s.own;
        there = ap is_some is;
        rows = λ line year on. plus_zero (row_at lines line year) ∙ row_there lines k rows line year is on ∙ s.rows line year on;
      })

  away_one : (lines : Tables) (k : ℕ) (o : Option Table) (t : Option PassState) → table_of lines k ≡ o → IsStripe table plan k o t → t ≡ None → table_of lines k ≡ None
  away_one lines k None None is s at = is
  away_one lines k None (Some q) is s at = is
  away_one lines k (Some rows) None is s at = absurd s
  away_one lines k (Some rows) (Some q) is s at = cc

  pub taken_of : (lines : Tables) (ties : List (Option PassState)) → ((k : ℕ) → k < 8 → IsStripe table plan k (table_of lines k) (tie_at ties k)) → AreTakenStripes table plan lines None ties
  taken_of lines ties each = record {
    stripes = λ k l. taken_one lines k (table_of lines k) (tie_at ties k) refl (each k l);
    away = λ k l. away_one lines k (table_of lines k) (tie_at ties k) refl (each k l);
    can = tt;
  }

  rest_one : (lines : Tables) (k : ℕ) (o : Option Table) (t : Option PassState) → table_of lines k ≡ o → ((p : PassState) → t ≡ Some p → IsTakenStripe table plan k lines [] p) → (t ≡ None → table_of lines k ≡ None) →
      IsStripe table plan k o t
  rest_one lines k None None is stands away = tt
  rest_one lines k None (Some p) is stands away = clash (sym (ap is_some is) ∙ (stands p refl).there)
    where
      clash : false ≡ true → ⊥
      clash e = cc
  rest_one lines k (Some rows) None is stands away = clash (sym (ap is_some (away refl)) ∙ ap is_some is)
    where
      clash : false ≡ true → ⊥
      clash e = cc
  rest_one lines k (Some rows) (Some p) is stands away =
      let s = stands p refl in
      record { own = s.own; rows = λ line year on. sym (row_there lines k rows line year is on) ∙ sym (plus_zero (row_at lines line year)) ∙ s.rows line year on }

  pub rest_of : (lines : Tables) (ties : List (Option PassState)) → AreTakenStripes table plan lines None ties → (k : ℕ) → k < 8 → IsStripe table plan k (table_of lines k) (tie_at ties k)
  rest_of lines ties t k l = rest_one lines k (table_of lines k) (tie_at ties k) refl (t.stripes k l) (t.away k l)

  -- a stripe's table is there where its tie is
  pub same_there : (k : ℕ) (o : Option Table) (t : Option PassState) → IsStripe table plan k o t → is_some o ≡ is_some t
  same_there k None None s = refl
  same_there k None (Some p) s = absurd s
  same_there k (Some rows) None s = absurd s
  same_there k (Some rows) (Some p) s = refl
