-- Bytes that are filled up and written over.
use Rattle.std.proofs.Common.{◌≡◌, inl, inr, ℕ, ◌+◌, ◌-◌, ◌<◌, ◌≤◌, max, List, ◌++◌, length, take, drop, replicate, sym, ◌∙◌, ap, arith, length-append}
use Rattle.cf_base.proofs.Common.{cases_lt, take_all, drop_all, take-append-le, append-nil, length-replicate, take-replicate, take-append-add}
use Rattle.cf_disk.specs.Images.{padded, written}
use Rattle.cf_disk.specs.MemoryLaws.{length-padded, length-written}

abbrev filled : ℕ → List ℕ → List ℕ
filled len old = old ++ replicate (len - length old) 0

front_within : (at len : ℕ) (old : List ℕ) → at ≤ length old → take at (filled len old) ≡ take at (padded at old)
front_within at len old within = take-append-le at old _ within ∙ sym (take-append-le at old _ within)

front_past : (at len : ℕ) (old : List ℕ) → length old < at → at ≤ len → take at (filled len old) ≡ take at (padded at old)
front_past at len old past le =
    let gap = at - length old in
    let split : at ≡ length old + gap = omega arith in
    ap (λ (k : ℕ). take k (filled len old)) split ∙ take-append-add old (replicate (len - length old) 0) gap
    ∙ ap (λ (l : List ℕ). old ++ l) (take-replicate gap (len - length old) 0 (omega arith))
    ∙ sym (take_all at (padded at old) (omega (arith, length-padded at old)))

front_filled : (at len : ℕ) (old : List ℕ) → at ≤ len → take at (filled len old) ≡ take at (padded at old)
front_filled at len old le = elim (cases_lt (length old) at) [ inl past ↦ front_past at len old past le | inr within ↦ front_within at len old within ]

nothing : (len : ℕ) (old : List ℕ) → len ≡ length old → filled len old ≡ old
nothing len old is =
    let none : len - length old ≡ 0 = omega arith in
    ap (λ (k : ℕ). old ++ replicate k 0) none ∙ append-nil old

back_filled : (end len : ℕ) (old : List ℕ) → len ≡ max (length old) end → drop end (filled len old) ≡ drop end old
back_filled end len old is = elim (cases_lt (length old) end) [
  | inl past ↦
      let short : length (filled len old) ≤ end = omega (arith, length-append old (replicate (len - length old) 0), length-replicate {A = ℕ} (len - length old) 0) in
      drop_all end (filled len old) short ∙ sym (drop_all end old (omega arith))
  | inr within ↦ ap (λ (l : List ℕ). drop end l) (nothing len old (omega arith))
]

-- what a write makes of bytes that were filled up to its end
pub made : (at len m n : ℕ) (piece old r b : List ℕ) → n ≡ length old → r ≡ take len old ++ replicate (len - n) 0 → len ≡ max (length old) (at + length piece) → b ≡ take at r ++ piece ++ drop (at + length piece) r → m ≡ length r
    → take m (b ++ drop (length b) r) ≡ written at piece old
made at len m n piece old r b n_is r_is len_is b_is m_is =
    let r_filled : r ≡ filled len old = r_is ∙ ap (λ (k : ℕ). take len old ++ replicate (len - k) 0) n_is ∙ ap (λ (l : List ℕ). l ++ replicate (len - length old) 0) (take_all len old (omega arith)) in
    let size : length r ≡ len = ap length r_filled ∙ length-append old (replicate (len - length old) 0) ∙ omega (arith, length-replicate {A = ℕ} (len - length old) 0) in
    let fronts : take at r ≡ take at (padded at old) = ap (λ (l : List ℕ). take at l) r_filled ∙ front_filled at len old (omega arith) in
    let backs : drop (at + length piece) r ≡ drop (at + length piece) old = ap (λ (l : List ℕ). drop (at + length piece) l) r_filled ∙ back_filled (at + length piece) len old len_is in
    let b_written : b ≡ written at piece old = b_is ∙ ap (λ (l : List ℕ). l ++ piece ++ drop (at + length piece) r) fronts ∙ ap (λ (l : List ℕ). take at (padded at old) ++ piece ++ l) backs in
    let b_size : length b ≡ length r = ap length b_written ∙ length-written at piece old ∙ omega arith in
    ap (λ (l : List ℕ). take m (b ++ l)) (drop_all (length b) r (omega arith)) ∙ ap (λ (l : List ℕ). take m l) (append-nil b) ∙ take_all m b (omega arith) ∙ b_written
