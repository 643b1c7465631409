use Rattle.std.proofs.Common.{◌≡◌, ◌++◌, [], ◌≤◌, drop, take, length, ℕ, ◌+◌, ◌-◌, ◌<◌, List, ◌∷◌, min, arith, refl, sym, ◌∙◌, ap, length-take, length-drop, length-append, subst}
use Rattle.std.proofs.lemmas.List.{take-append-drop, length-take-le, drop-drop}
use Rattle.std.proofs.Math.Seq.{take-length, take-append_seam}
use Rattle.cf_base.proofs.memory.MemSourceSource.read.Goals as goal

-- all that is left
whole : (l : List ℕ) (n : ℕ) → n ≡ length l → take n l ≡ l
whole l n e = rw e (take-length l)

front : (rest tail : List ℕ) (n : ℕ) → n ≤ length rest → take n (take n rest ++ tail) ≡ take n rest
front rest tail n le = let e : length (take n rest) ≡ n = length-take-le n rest le in subst (λ (k : ℕ). take k (take n rest ++ tail) ≡ take n rest) e (take-append_seam (take n rest) tail)

none : (l : List ℕ) → length l ≡ 0 → l ≡ []
none [] e = refl
none (x ∷ l) e = absurd (omega (arith, e))

consumed : (bytes buf copied rest : List ℕ) (place n : ℕ) → rest ≡ drop place bytes → copied ≡ take n rest → n ≡ min (length rest) (length buf)
    → (drop place bytes ≡ take n (copied ++ drop n buf) ++ drop (place + n) bytes) × (n ≡ 0 → 0 < length (copied ++ drop n buf) → drop (place + n) bytes ≡ [])
consumed bytes buf copied rest place n r c m =
    let le : n ≤ length rest = omega (arith, m) in
    let split : rest ≡ take n rest ++ drop (place + n) bytes = sym (take-append-drop n rest) ∙ ap (λ l. take n rest ++ l) (ap (drop n) r ∙ drop-drop n place bytes) in (
      sym r ∙ split ∙ ap (λ l. l ++ drop (place + n) bytes) (sym (front rest (drop n buf) n le) ∙ ap (λ l. take n (l ++ drop n buf)) (sym c)),
      λ z some. none (drop (place + n) bytes)
          (let a : length (drop (place + n) bytes) ≡ length bytes - (place + n) = length-drop (place + n) bytes in
          let b : length rest ≡ length bytes - place = ap length r ∙ length-drop place bytes in
          let d : length (copied ++ drop n buf) ≡ length copied + (length buf - n) = length-append copied (drop n buf) ∙ ap (λ k. length copied + k) (length-drop n buf) in
          let k : length copied ≡ min n (length rest) = ap length c ∙ length-take n rest in
          omega arith),
    )

pub returns-clause-bytes : goal.returns-clause-bytes
returns-clause-bytes c =
    consumed c.args.self.now.bytes.items c.args.buf.now c.copy_from_slice.new.self
    (take (length c.deref.result.now - c.args.self.now.place) (drop c.args.self.now.place c.deref.result.now)) c.args.self.now.place c.min-count.result
    (rw c.deref.ensures.value (whole (drop c.args.self.now.place c.args.self.now.bytes.items) (length c.args.self.now.bytes.items - c.args.self.now.place) (sym (length-drop c.args.self.now.place c.args.self.now.bytes.items))))
    c.copy_from_slice.ensures.after c.min-count.ensures
