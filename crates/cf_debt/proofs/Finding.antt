-- The row of a bond's number.
use Rattle.std.proofs.Common.{◌≡◌, ◌≢◌, ◌⊎◌, inl, inr, ℕ, ◌+◌, ◌-◌, ◌<◌, ◌≤◌, Bool, true, false, if◌then◌else◌, ◌==◌, List, [], ◌∷◌, length, get_or, Option, Some, None, is_some, option_map, IfSome, refl, sym, subst, ap, ◌∙◌, arith, filter}
use Rattle.cf_base.proofs.Common.{common_steps}
use Rattle.cf_debt.specs.declared.debt.BondNow.{BondNow}
use Rattle.cf_debt.specs.declared.rows.BondRow.{BondRow}
use Rattle.cf_debt.specs.Register.{Debts}
use Rattle.cf_debt.specs.RegisterView.{AreRows}
use Rattle.cf_debt.specs.Rows.{IsBond, IsRow, IsSmallDue, view_bond, view_bonds, view_payment}
use Rattle.cf_debt.specs.Steps.{CanPay, ShowsBond}
use Rattle.cf_debt.proofs.Lists.{filter_one}
use Rattle.cf_debt.proofs.Schedules.{next_none}
use Rattle.cf_model.specs.Common.{Bond, Due, next_due, bond_at}
use Rattle.cf_register_parts.proofs.Lists.{find_none, find_one, less_or_not}

pub differ : (a b : ℕ) → a ≢ b → (a == b) ≡ false
differ a b n = grind (arith, common_steps)

pub agree : (a b : ℕ) → a ≡ b → (a == b) ≡ true
agree a b e = grind (arith, common_steps)

pub found : (closed : ℕ) (all : List Due) (rows : List BondRow) (k n : ℕ) (d : BondRow) → AreRows closed all rows → k < length rows → n ≡ k + 1 →
    bond_at n (view_bonds all rows) ≡ Some (view_bond all (get_or rows k d))
found closed all rows k n d each l is =
    find_one (λ (b : Bond). b.number == n) (view_bond all) rows k d l (agree (get_or rows k d).number n (omega (arith, is, (each k d l).number)))
    (λ j jl. differ (get_or rows j d).number n (λ e. omega (arith, is, e, jl, (each j d (omega (arith, jl, l))).number)))

pub alone : (closed : ℕ) (all : List Due) (rows : List BondRow) (k n : ℕ) (d : BondRow) → AreRows closed all rows → k < length rows → n ≡ k + 1 →
    filter (λ (b : Bond). b.number == n) (view_bonds all rows) ≡ view_bond all (get_or rows k d) ∷ []
alone closed all rows k n d each l is =
    filter_one (λ (b : Bond). b.number == n) (view_bond all) rows k d l (agree (get_or rows k d).number n (omega (arith, is, (each k d l).number)))
    (λ j e jl apart. differ (get_or rows j e).number n (λ h. apart (omega (arith, is, h, (each j e jl).number))))

-- no bond has the number 0, or one above their count
pub none_at_zero : (closed : ℕ) (all : List Due) (rows : List BondRow) (n : ℕ) → AreRows closed all rows → n ≡ 0 → bond_at n (view_bonds all rows) ≡ None
none_at_zero closed all rows n each is = find_none (λ (b : Bond). b.number == n) (view_bond all) rows (λ k d l. differ (get_or rows k d).number n (λ e. omega (arith, is, e, (each k d l).number)))

pub none_past : (closed : ℕ) (all : List Due) (rows : List BondRow) (n : ℕ) → AreRows closed all rows → length rows < n → bond_at n (view_bonds all rows) ≡ None
none_past closed all rows n each past = find_none (λ (b : Bond). b.number == n) (view_bond all) rows (λ k d l. differ (get_or rows k d).number n (λ e. omega (arith, past, e, l, (each k d l).number)))

-- where no bond has a number, none passes that asks for it
pub none_passes : (n : ℕ) (bonds : List Bond) → bond_at n bonds ≡ None → filter (λ (b : Bond). b.number == n) bonds ≡ []
none_passes n [] e = refl
none_passes n (b ∷ bonds) e = by_test (b.number == n) e (none_passes n bonds)
  where
    by_test : (t : Bool) → (if t then Some b else bond_at n bonds) ≡ None → (bond_at n bonds ≡ None → filter (λ (b : Bond). b.number == n) bonds ≡ []) →
        (if t then b ∷ filter (λ (b : Bond). b.number == n) bonds else filter (λ (b : Bond). b.number == n) bonds) ≡ []
    by_test true e more = cc
    by_test false e more = more e

pub shows : (d : Debts) (closed : ℕ) (all : List Due) (rows : List BondRow) (k n : ℕ) (x : BondNow) → d.bonds ≡ view_bonds all rows → AreRows closed all rows → k < length rows → n ≡ k + 1 →
    x.row ≡ get_or rows k x.row → option_map view_payment x.next ≡ next_due (view_bond all x.row) → IfSome x.next (λ p. IsSmallDue (view_payment p)) → ShowsBond n d x
shows d closed all rows k n x bonds each l is at next small =
    record {
      all = all;
      is = ap (bond_at n) bonds ∙ found closed all rows k n x.row each l is ∙ ap (λ (r : BondRow). Some (view_bond all r)) (sym at);
      alone = ap (filter (λ (b : Bond). b.number == n)) bonds ∙ alone closed all rows k n x.row each l is ∙ ap (λ (r : BondRow). view_bond all r ∷ []) (sym at);
      bond = subst (IsBond all) (sym at) (each k x.row l).bond;
      next = next;
      small = small;
    }

some_apart : (b : Bond) → Some b ≡ None → ⊥
some_apart b e = cc

some_equal : (a b : Bond) → Some a ≡ Some b → a ≡ b
some_equal a b e = cc

none_some : (o : Option Due) → o ≡ None → is_some o ≡ true → ⊥
none_some None e h = cc
none_some (Some p) e h = cc

-- what a payment finds: the row of its bond, of which a payment is left
pub record Pays (rows : List BondRow) (n : ℕ) : Type 0 where
  pub first : 1 ≤ n
  pub within : n ≤ length rows
  pub left : (d : BondRow) → (get_or rows (n - 1) d).paid < (get_or rows (n - 1) d).count

pub pays : (d : Debts) (closed : ℕ) (all : List Due) (rows : List BondRow) (n : ℕ) → d.bonds ≡ view_bonds all rows → AreRows closed all rows → CanPay n d → Pays rows n
pays d closed all rows n bonds each can = by_number (less_or_not n 1) (less_or_not (length rows) n)
  where
    is : bond_at n (view_bonds all rows) ≡ Some can.bond
    is = ap (bond_at n) (sym bonds) ∙ can.is

    by_number : (n < 1) ⊎ (1 ≤ n) → (length rows < n) ⊎ (n ≤ length rows) → Pays rows n
    by_number (inl below) h = absurd (some_apart can.bond (sym is ∙ none_at_zero closed all rows n each (omega arith)))
    by_number (inr from) (inl past) = absurd (some_apart can.bond (sym is ∙ none_past closed all rows n each past))
    by_number (inr from) (inr to) =
        record {
          first = from;
          within = to;
          left = λ e. by_left e (less_or_not (get_or rows (n - 1) e).paid (get_or rows (n - 1) e).count);
        }
      where
        l : n - 1 < length rows
        l = omega (arith, from, to)

        by_left : (e : BondRow) → ((get_or rows (n - 1) e).paid < (get_or rows (n - 1) e).count) ⊎ ((get_or rows (n - 1) e).count ≤ (get_or rows (n - 1) e).paid) →
            (get_or rows (n - 1) e).paid < (get_or rows (n - 1) e).count
        by_left e (inl more) = more
        by_left e (inr none) =
            let at : n ≡ (n - 1) + 1 = omega (arith, from) in
            let same : view_bond all (get_or rows (n - 1) e) ≡ can.bond = some_equal _ _ (sym (found closed all rows (n - 1) n e each l at) ∙ is) in
            absurd (none_some (next_due can.bond) (ap next_due (sym same) ∙ next_none all (get_or rows (n - 1) e) (each (n - 1) e l).bond none) can.left)

-- the row that a payment finds
pub found_row : (closed : ℕ) (all : List Due) (rows : List BondRow) (n : ℕ) (r : BondRow) → AreRows closed all rows → Pays rows n → r ≡ get_or rows (n - 1) r → IsRow closed all (n - 1) r
found_row closed all rows n r each p at = subst (IsRow closed all (n - 1)) (sym at) (each (n - 1) r (omega (arith, p.first, p.within)))

pub found_left : (rows : List BondRow) (n : ℕ) (r : BondRow) → Pays rows n → r ≡ get_or rows (n - 1) r → r.paid < r.count
found_left rows n r p at = subst (λ (x : BondRow). x.paid < x.count) (sym at) (p.left r)
