-- The calls of the generator are in form.
use Rattle.std.proofs.Common.{◌≡◌, suc, ◌+◌, ◌<◌, ◌≤◌, ◌^◌, ◌++◌, ◌∷◌, [], ℕ, true, List, Option, Some, None, IfSome, length, codes, refl, arith, decimal}
use Rattle.cf_base.proofs.Common.{list_all, both_true, length-decimal-le, decimal_is_IsNumeral, le-leb, AllDigits, tells_digits}
use Rattle.cf_calls.specs.Common.{IsActInForm, IsChangeInForm, is_key, is_key_byte}
use Rattle.cf_model.specs.Common.{Act}
use Rattle.cf_run_generate.specs.Acts.{act_by, act_of, adoption, change_of, first_day, month_close}
use Rattle.cf_run_generate.specs.Turns.{choice_of, first_turn, moved_on, turn_after}
use Rattle.cf_run_generate.specs.declared.turn.Turn.{Turn}
use Rattle.cf_run_generate.specs.declared.turn.Choice.{Choice}
use Rattle.cf_run_generate.specs.declared.turn.Choice.TheVariants as choice

pub adoption_1 : IsActInForm first_day (adoption 1 0 30)
adoption_1 = record { year = record { from = omega arith; to = omega arith }; few_lines = omega arith; lines = refl; few_estimates = omega arith; estimates = refl }

pub adoption_2 : IsActInForm first_day (adoption 2 30 8)
adoption_2 = record { year = record { from = omega arith; to = omega arith }; few_lines = omega arith; lines = refl; few_estimates = omega arith; estimates = refl }

pub adoption_3 : IsActInForm first_day (adoption 3 38 2)
adoption_3 = record { year = record { from = omega arith; to = omega arith }; few_lines = omega arith; lines = refl; few_estimates = omega arith; estimates = refl }

pub close_form : IsActInForm first_day month_close
close_form = record { from = omega arith; to = omega arith; first = omega arith; last = omega arith }

by_choice : (c : Choice) (t : Turn) (waiting : Option ℕ) → t.waiting ≡ waiting → IsActInForm first_day (act_by c t)
by_choice choice.Order t w e = record { from = omega arith; to = omega arith }
by_choice choice.Direct t w e = record { count = record { from = omega arith; to = omega arith }; charges = refl; apart = refl }
by_choice choice.Final t None e = rw e (record { count = record { from = omega arith; to = omega arith }; charges = refl; apart = refl })
by_choice choice.Final t (Some l) e = rw e (record { count = record { from = omega arith; to = omega arith }; charges = refl; apart = refl })
by_choice choice.Receipt t w e = tt

pub act_form : (t : Turn) → IsActInForm first_day (act_of t)
act_form t = by_choice (choice_of t) t t.waiting refl

-- ---- keys

key_bytes : (ds : List ℕ) → AllDigits 10 ds → list_all is_key_byte ds ≡ true
key_bytes [] all = refl
key_bytes (c ∷ cs) all =
    let p = tells_digits.parts c cs all in
    both_true (both_true (le-leb 33 c (omega (arith, p.0.0))) (le-leb c 126 (omega (arith, p.0.1)))) (key_bytes cs p.1)

key_form : (n : ℕ) → n < 2 ^ 32 → is_key (codes "g" ++ decimal n) ≡ true
key_form n lt =
    let few = length-decimal-le 10 n (omega arith) (omega (arith, lt)) (omega (arith, lt)) in
    both_true (both_true (le-leb 1 (suc (length (decimal n))) (omega arith)) (le-leb (suc (length (decimal n))) 40 (omega (arith, few)))) (both_true refl (key_bytes (decimal n) (decimal_is_IsNumeral n (omega (arith, lt))).0.1))

pub change_form : (n : ℕ) (a : Act) → n < 2 ^ 32 → IsActInForm first_day a → IsChangeInForm (change_of n a)
change_form n a lt h = record { key = key_form n lt; on = refl; act = h }

-- ---- turns

-- what holds of a turn after so many calls
pub record Holds (i : ℕ) (t : Turn) : Type 0 where
  pub seed : t.seed < 2 ^ 31
  pub orders : t.orders ≤ i
  pub waiting : IfSome t.waiting (λ line. line < 40)

moved_holds : (c : Choice) (i : ℕ) (t : Turn) → Holds i t → Holds (i + 1) (moved_on c t)
moved_holds choice.Order i t h = record { seed = omega arith; orders = omega (arith, h.orders); waiting = omega arith }
moved_holds choice.Direct i t h = record { seed = omega arith; orders = omega (arith, h.orders); waiting = h.waiting }
moved_holds choice.Final i t h = record { seed = omega arith; orders = omega (arith, h.orders); waiting = tt }
moved_holds choice.Receipt i t h = record { seed = omega arith; orders = omega (arith, h.orders); waiting = h.waiting }

pub first_holds : (n : ℕ) → Holds 0 (first_turn n)
first_holds n = record { seed = omega arith; orders = omega arith; waiting = tt }

pub turn_holds : (i : ℕ) (t : Turn) → Holds i t → Holds (i + 1) (turn_after t)
turn_holds i t h = moved_holds (choice_of t) i t h
