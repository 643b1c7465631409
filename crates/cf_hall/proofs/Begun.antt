-- A hall that is opened: its own pass has the first places, and every stripe has seen the list.
use Rattle.std.proofs.Common.{◌≡◌, ◌≢◌, ℕ, ◌+◌, ◌<◌, ◌≤◌, ◌%◌, true, List, [], ◌∷◌, ◌++◌, Option, None, sym, ap, subst, ◌∙◌, arith, ◌==◌, if◌then◌else◌, count_by}
use Rattle.cf_base.proofs.Common.{nat_tests}
use native.Mathlib.Decide.{ℕ_discrete}
use Rattle.atomic_table.specs.Seated.{TableId}
use Rattle.cf_budget.specs.Tables.{Tables, has_stripe, has_line, row_at}
use Rattle.cf_budget.proofs.Rows.{plus_zero}
use Rattle.cf_model.specs.Common.{Entry, entry_touches}
use Rattle.cf_chart.specs.Common.{Plan}
use Rattle.cf_hall_names.specs.Closing.{HasFirst}
use Rattle.cf_hall_names.specs.Lists.{entries_of, tie_at}
use Rattle.cf_registers.specs.Moved.{AreTablesOf, row_of}
use Rattle.cf_turns.specs.Lists.{TaggedEntry, count_of}
use Rattle.cf_turns.specs.States.{PassState}
use Rattle.cf_turns.specs.Touching.{touch_count}
use Rattle.cf_turns.proofs.Numbers.{count_of-other}
use Rattle.cf_hall.specs.OpeningNames.{HasSeen}
use Rattle.cf_hall.specs.TakenState.{IsTakenStripe, AreTakenStripes}
use Rattle.cf_hall.proofs.Standing.{counts_entries}

-- ---- places

count_of-own : (n : ℕ) (ms : List ℕ) → count_of n (ms ++ n ∷ []) ≡ count_of n ms + 1
count_of-own n [] = grind (arith, nat_tests)
count_of-own n (m ∷ ms) = let rest = count_of-own n ms in let here : ℕ = if m == n then 1 else 0 in omega (arith, rest)

pub first_more : (n : ℕ) (places : List ℕ) → HasFirst n places → HasFirst (n + 1) (places ++ (n + 1) ∷ [])
first_more n places first = record {
  has = λ place from to. by_case place from to (ℕ_discrete (n + 1) place);
  past = λ place from. count_of-other place (n + 1) places (λ same. omega (arith, same, from)) ∙ first.past place (omega (arith, from));
}
  where
    by_case : (place : ℕ) → 0 < place → place ≤ n + 1 → Dec (n + 1 ≡ place) → count_of place (places ++ (n + 1) ∷ []) ≡ 1
    by_case place from to (yes same) =
        subst (λ (p : ℕ). count_of p (places ++ (n + 1) ∷ []) ≡ 1) same (omega (arith, count_of-own (n + 1) places, first.past (n + 1) (omega arith)))
    by_case place from to (no other) = count_of-other place (n + 1) places other ∙ first.has place from (below place to other)
      where
        below : (p : ℕ) → p ≤ n + 1 → n + 1 ≢ p → p ≤ n
        below p le ne = omega arith

-- ---- counts

-- a stripe's count of the entries, where none was counted before
pub counted : (plan under : Plan) (k : ℕ) (list : List TaggedEntry) (entries : List Entry) (total n : ℕ) → under ≡ plan → entries_of list ≡ entries → total ≡ 0 → n ≡ count_by (entry_touches under k) entries →
    total + n ≡ touch_count (entry_touches plan k) list
counted plan under k list entries total n same is none more =
    let all : n ≡ touch_count (entry_touches plan k) list =
    more ∙ (λ i. count_by (entry_touches (same i) k) (sym is i)) ∙ sym (counts_entries (entry_touches plan k) list) in
    omega (arith, none, all)

-- ---- stripes

module _ (table : TableId) (plan : Plan) where
  begun_one : (lines : Tables) (list : List TaggedEntry) (k : ℕ) (p : PassState) → AreTablesOf plan (entries_of list) lines → ((line : ℕ) → has_line lines line ≡ true) → k < 8 →
      (p.table ≡ table) × (p.seen ≡ list) → IsTakenStripe table plan k lines [] p
  begun_one lines list k p tables whole below seen =
      let same : k % 8 ≡ k = omega arith in
      record {
        own = seen.0;
        there = subst (λ (n : ℕ). has_stripe lines n ≡ true) same (whole k);
        rows = λ line year on. plus_zero (row_at lines line year) ∙ tables line year (whole line) ∙ ap (λ (l : List TaggedEntry). row_of plan (entries_of l) line year) (sym seen.1);
      }

  pub begun : (lines : Tables) (list : List TaggedEntry) (ties : List (Option PassState)) → AreTablesOf plan (entries_of list) lines → ((line : ℕ) → has_line lines line ≡ true) →
      ((k : ℕ) → k < 8 → HasSeen table list (tie_at ties k)) → AreTakenStripes table plan lines None ties
  begun lines list ties tables whole seen = record {
    stripes = λ k below p is. begun_one lines list k p tables whole below (subst (HasSeen table list) is (seen k below));
    away = λ k below none. absurd (subst (HasSeen table list) none (seen k below));
    can = tt;
  }
