-- The rows of a legal history are numbered 1, 2, 3 .. in the order in which they are entered, so a
-- number names at most one.
use Rattle.std.proofs.Common.{◌≡◌, ℕ, suc, ◌+◌, ◌≤◌, Bool, true, false, if◌then◌else◌, ◌==◌, List, [], ◌∷◌, ◌++◌, map, length, find, Some, option_to_list, refl, sym, subst, ap, ◌∙◌, arith, filter}
use Rattle.cf_base.proofs.Common.{common_steps}
use Rattle.cf_calls.specs.declared.entry.Entry.{Entry}
use Rattle.cf_chart.specs.Common.{Plan}
use Rattle.cf_model.specs.Common.{Registers, no_registers, registers_of, registers_step, draws, Adds, IsLegal}
use Rattle.cf_model.proofs.Accepted.{accepted}
use Rattle.cf_model.proofs.Legal.{legal_induction}
use Rattle.cf_model.proofs.Pushes.{registers_push}

-- rows with the numbers after this one, each the next
abbrev pub AreNumbered : {A : Type 0} → (A → ℕ) → ℕ → List A → Type 0
AreNumbered number n [] = Unit {0}
AreNumbered number n (x ∷ xs) = (number x ≡ n + 1) × AreNumbered number (n + 1) xs

-- a step keeps each row's number, and new rows have the next ones
pub numbered_step : {A : Type 0} (number : A → ℕ) (step : A → A) → ((x : A) → number (step x) ≡ number x) → (n m : ℕ) (xs new : List A) → m ≡ n + length xs →
    AreNumbered number n xs → AreNumbered number m new → AreNumbered number n (map step xs ++ new)
numbered_step number step kept n m [] new at numbered more = subst (λ k. AreNumbered number k new) (omega (arith, at)) more
numbered_step number step kept n m (x ∷ xs) new at numbered more =
    (kept x ∙ numbered.0, numbered_step number step kept (n + 1) m xs new (next m n (length xs) at) numbered.1 more)
  where
    next : (m n k : ℕ) → m ≡ n + suc k → m ≡ (n + 1) + k
    next m n k e = omega (arith, e)

pub numbered_always : {A : Type 0} (number : A → ℕ) (rows : Registers → List A) (plan : Plan) → AreNumbered number 0 (rows no_registers) →
    ((s : Registers) (e : Entry) → e.drawn ≡ draws s e.change.act → AreNumbered number 0 (rows s) → AreNumbered number 0 (rows (registers_step plan s e))) →
    (history : List Entry) → IsLegal plan history → AreNumbered number 0 (rows (registers_of plan history))
numbered_always number rows plan none step history legal = legal_induction plan (λ h. AreNumbered number 0 (rows (registers_of plan h))) none after history legal
  where
    after : (h : List Entry) (e : Entry) → AreNumbered number 0 (rows (registers_of plan h)) → Adds plan h e → AreNumbered number 0 (rows (registers_of plan (h ++ e ∷ [])))
    after h e numbered adds =
        subst (λ (s : Registers). AreNumbered number 0 (rows s)) (sym (registers_push plan no_registers h e))
        (step (registers_of plan h) e (ap (λ (x : Entry). x.drawn) (accepted plan h e adds).entry) numbered)

-- ---- a number names at most one

none_named : {A : Type 0} (number : A → ℕ) (n k : ℕ) (xs : List A) → k ≤ n → AreNumbered number n xs → filter (λ x. number x == k) xs ≡ []
none_named number n k [] l numbered = refl
none_named number n k (x ∷ xs) l numbered = rw (other (number x) numbered.0) (none_named number (n + 1) k xs (omega (arith, l)) numbered.1)
  where
    other : (m : ℕ) → m ≡ n + 1 → (m == k) ≡ false
    other m e = grind (arith, common_steps)

-- so the rows of a number are the one that it names
pub named_once : {A : Type 0} (number : A → ℕ) (n k : ℕ) (xs : List A) → AreNumbered number n xs → filter (λ x. number x == k) xs ≡ option_to_list (find (λ x. number x == k) xs)
named_once number n k [] numbered = refl
named_once number n k (x ∷ xs) numbered = by_test (number x == k) refl (named_once number (n + 1) k xs numbered.1)
  where
    within : (m : ℕ) → m ≡ n + 1 → (m == k) ≡ true → k ≤ n + 1
    within m e t = grind (arith, common_steps)

    by_test : (t : Bool) → (number x == k) ≡ t → filter (λ y. number y == k) xs ≡ option_to_list (find (λ y. number y == k) xs) →
        (if t then x ∷ filter (λ y. number y == k) xs else filter (λ y. number y == k) xs) ≡ option_to_list (if t then Some x else find (λ y. number y == k) xs)
    by_test true e more = ap (λ rest. x ∷ rest) (none_named number (n + 1) k xs (within (number x) numbered.0 e) numbered.1)
    by_test false e more = more
