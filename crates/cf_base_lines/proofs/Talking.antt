-- A talk goes on by a line.
use Rattle.std.proofs.Common.{◌≡◌, ℕ, ◌<◌, ◌≤◌, List, [], ◌∷◌, ◌++◌, length, take, drop, append_assoc, ap, ◌∙◌, sym, refl, subst, Option}
use Rattle.cf_base.proofs.Common.{Appends, Appends-trans, append-nil, take-append-drop}
use Rattle.cf_base_lines.specs.Lines.{one_a_line}
use Rattle.cf_base_lines.specs.Talk.{Rule, Talk, Answers, Answered, long_text}
use Rattle.cf_base_lines.specs.Sinks.{Wrote}
use Rattle.cf_base_lines.specs.State.{Puts}

pub one_a_line-append : (ts : List (List ℕ)) (t rest : List ℕ) → one_a_line (ts ++ t ∷ []) ++ rest ≡ one_a_line ts ++ (t ++ 10 ∷ rest)
one_a_line-append [] t rest = append_assoc t (10 ∷ []) rest
one_a_line-append (u ∷ ts) t rest =
    append_assoc u (10 ∷ one_a_line (ts ++ t ∷ [])) rest ∙ ap (λ l. u ++ 10 ∷ l) (one_a_line-append ts t rest) ∙ sym (append_assoc u (10 ∷ one_a_line ts) (t ++ 10 ∷ rest))

pub one_a_line-last : (ts : List (List ℕ)) (t : List ℕ) → one_a_line (ts ++ t ∷ []) ≡ one_a_line ts ++ (t ++ 10 ∷ [])
one_a_line-last ts t = sym (append-nil (one_a_line (ts ++ t ∷ []))) ∙ one_a_line-append ts t []

pub talk_more : {O : Type 0} (rule : Rule O) (before : O) (lines answers : List (List ℕ)) (middle : O) (line answer : List ℕ) (after : O)
    → Talk rule before lines answers middle → Answers rule middle line answer after → Talk rule before (lines ++ line ∷ []) (answers ++ answer ∷ []) after
talk_more {O = O} rule before [] [] middle line answer after t a = (after, subst (λ (h : O). Answers rule h line answer after) t a, refl)
talk_more {O = O} rule before [] (b ∷ bs) middle line answer after t a = absurd t
talk_more {O = O} rule before (l ∷ ls) [] middle line answer after t a = absurd t
talk_more {O = O} rule before (l ∷ ls) (b ∷ bs) middle line answer after t a = (t.0, t.1, talk_more rule t.0 ls bs middle line answer after t.2 a)

pub puts_long : {O : Type 0} (rule : Rule O) (before : O) (line old new : List ℕ) → 262144 < length line → new ≡ old ++ long_text → Puts rule before line before old new
puts_long rule before line old new long put = record { answer = long_text; put = put; answers = Answers.long long }

pub puts_said : {O : Type 0} (rule : Rule O) (before : O) (line bytes : List ℕ) (after : O) (old new : List ℕ) → bytes ≡ line → length bytes ≤ 262144 → Answered rule before bytes after old new → Puts rule before line after old new
puts_said rule before line bytes after old new e short a = record {
  answer = a.answer;
  put = a.put;
  answers = subst (λ (l : List ℕ). Answers rule before l a.answer after) e (Answers.said a.answer after short a.says);
}

-- a further write
pub wrote_more : (a b c : Option (List ℕ)) (all rest : List ℕ) (n : ℕ) → Wrote a b all rest → Appends b c (take n rest) → (left : List ℕ) → left ≡ drop n rest → Wrote a c all left
wrote_more a b c all rest n w more left e = subst (λ (l : List ℕ). Wrote a c all l) (sym e) (record {
  done = w.done ++ take n rest;
  joins = w.joins ∙ ap (λ l. w.done ++ l) (sym (take-append-drop n rest)) ∙ sym (append_assoc w.done (take n rest) (drop n rest));
  put = Appends-trans a b c w.done (take n rest) w.put more;
})
