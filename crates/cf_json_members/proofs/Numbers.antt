-- The text of numbers that follow one another.
use Rattle.std.proofs.Common.{◌≡◌, ℕ, zero, suc, ◌+◌, ◌-◌, ◌<◌, ◌≤◌, Bool, nat_lt, List, ◌++◌, decimal, ap, ◌∙◌, arith, append_assoc}
use Rattle.cf_base.proofs.Common.{lt-ltb}
use Rattle.serde_json.specs.Data.{item}
use Rattle.serde_json.specs.Written.{items_text, comma_if}
use Rattle.cf_json_members.specs.Objects.{count, numbers_from}

-- the first of some numbers, and the others
numbers_from-some : (n k : ℕ) → 0 < k → numbers_from n k ≡ item (count n) (numbers_from (n + 1) (k - 1))
numbers_from-some n zero some = absurd (omega arith)
numbers_from-some n (suc k) some = ap (λ j. item (count n) (numbers_from (n + 1) j)) (omega arith)

numbers_from-first : (n end : ℕ) → n < end → numbers_from n (end - n) ≡ item (count n) (numbers_from (n + 1) (end - (n + 1)))
numbers_from-first n end before =
    numbers_from-some n (end - n) (omega arith)
    ∙ ap (λ j. item (count n) (numbers_from (n + 1) j)) (omega arith)

-- one number more is written
pub push_number : (old new all : List ℕ) (later : Bool) (first n end : ℕ) → n < end → first ≤ n → new ≡ old ++ (comma_if later ++ decimal n)
    → old ++ items_text later (numbers_from n (end - n)) ≡ all
    → new ++ items_text (nat_lt first (n + 1)) (numbers_from (n + 1) (end - (n + 1))) ≡ all
push_number old new all later first n end before from pushed rest =
    rw (pushed, lt-ltb first (n + 1) (omega arith), append_assoc, append_assoc)
    (let split = numbers_from-first n end before in rw split at rest)
