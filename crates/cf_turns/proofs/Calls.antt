-- The calls of a number in a list that gains one.
use Rattle.std.proofs.Common.{◌≡◌, ◌≢◌, ℕ, List, [], ◌∷◌, ◌++◌, Bool, eq-eqb, ne_eqb, refl, sym, ap, ◌∙◌, append_assoc, append-nil, ◌==◌, if◌then◌else◌}
use Rattle.cf_calls.specs.declared.call.Call.{Call}
use Rattle.cf_turns.specs.Lists.{TaggedCall, calls_of}

-- the call, if the numbers are the same
abbrev call_if : Bool → Call → List Call
call_if same c = if same then c ∷ [] else []

calls_of-snoc : (n : ℕ) (list : List TaggedCall) (x : TaggedCall) → calls_of n (list ++ x ∷ []) ≡ calls_of n list ++ call_if (x.1 == n) x.0
calls_of-snoc n [] x = append-nil (call_if (x.1 == n) x.0)
calls_of-snoc n (y ∷ ys) x =
    let head = call_if (y.1 == n) y.0 in
    ap (λ l. head ++ l) (calls_of-snoc n ys x) ∙ sym (append_assoc head (calls_of n ys) (call_if (x.1 == n) x.0))

-- a call of another number
pub calls_of-other : (n : ℕ) (list : List TaggedCall) (c : Call) (m : ℕ) → m ≢ n → calls_of n (list ++ (c, m) ∷ []) ≡ calls_of n list
calls_of-other n list c m ne = calls_of-snoc n list (c, m) ∙ (ap (λ b. calls_of n list ++ call_if b c) (ne_eqb m n ne) ∙ append-nil (calls_of n list))

-- a call of this number
pub calls_of-own : (n : ℕ) (list : List TaggedCall) (c : Call) → calls_of n (list ++ (c, n) ∷ []) ≡ calls_of n list ++ c ∷ []
calls_of-own n list c = calls_of-snoc n list (c, n) ∙ ap (λ b. calls_of n list ++ call_if b c) (eq-eqb n n refl)
