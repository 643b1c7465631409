-- Which answers were given whole.
use Rattle.std.proofs.Common.{◌≡◌, ℕ, ◌+◌, ◌≤◌, List, [], ◌∷◌, ◌++◌, append_assoc, ap, ◌∙◌, sym, refl, arith}
use Rattle.cf_base.proofs.Common.{append-nil}
use Rattle.cf_base_lines.specs.Lines.{one_a_line}
use Rattle.cf_base_lines.specs.Talk.{Rule, Talk, Answers}
use Rattle.cf_base_lines.specs.Run.{Told}
use Rattle.cf_base_lines.proofs.Talking.{talk_more}

module _ {O : Type 0} (rule : Rule O) (accepted : O → ℕ) where
  -- where all answers were given
  pub told_all : (start now : O) (lines answers : List (List ℕ)) (given : List ℕ) (most : ℕ) → Talk rule start lines answers now → given ≡ one_a_line answers → Told rule accepted most start now lines answers given
  told_all start now lines answers given most talk all = record {
    first = lines;
    others = [];
    said = answers;
    unsaid = [];
    told = now;
    lines_are = sym (append-nil lines);
    answers_are = sym (append-nil answers);
    before = talk;
    since = refl;
    more = [];
    given_are = all ∙ sym (append-nil (one_a_line answers));
    few = omega arith;
  }

  -- more is given
  pub told_wrote : (most : ℕ) (start now : O) (lines answers : List (List ℕ)) (given done : List ℕ) → Told rule accepted most start now lines answers given → Told rule accepted most start now lines answers (given ++ done)
  told_wrote most start now lines answers given done t = record {
    first = t.first;
    others = t.others;
    said = t.said;
    unsaid = t.unsaid;
    told = t.told;
    lines_are = t.lines_are;
    answers_are = t.answers_are;
    before = t.before;
    since = t.since;
    more = t.more ++ done;
    given_are = ap (λ (l : List ℕ). l ++ done) t.given_are ∙ append_assoc (one_a_line t.said) t.more done;
    few = t.few;
  }

  -- a line more is answered
  pub told_line : (late most : ℕ) (start now after : O) (lines answers : List (List ℕ)) (given line answer : List ℕ) → late ≡ 0 → Answers rule now line answer after → accepted after ≤ accepted now + most
      → Told rule accepted late start now lines answers given → Told rule accepted most start after (lines ++ line ∷ []) (answers ++ answer ∷ []) given
  told_line late most start now after lines answers given line answer none says one t = record {
    first = t.first;
    others = t.others ++ line ∷ [];
    said = t.said;
    unsaid = t.unsaid ++ answer ∷ [];
    told = t.told;
    lines_are = ap (λ (l : List (List ℕ)). l ++ line ∷ []) t.lines_are ∙ append_assoc t.first t.others (line ∷ []);
    answers_are = ap (λ (l : List (List ℕ)). l ++ answer ∷ []) t.answers_are ∙ append_assoc t.said t.unsaid (answer ∷ []);
    before = t.before;
    since = talk_more rule t.told t.others t.unsaid now line answer after t.since says;
    more = t.more;
    given_are = t.given_are;
    few = omega (arith, none, one, t.few);
  }

  pub told_within : (late most : ℕ) (start now : O) (lines answers : List (List ℕ)) (given : List ℕ) → late ≤ most → Told rule accepted late start now lines answers given → Told rule accepted most start now lines answers given
  told_within late most start now lines answers given le t = record {
    first = t.first;
    others = t.others;
    said = t.said;
    unsaid = t.unsaid;
    told = t.told;
    lines_are = t.lines_are;
    answers_are = t.answers_are;
    before = t.before;
    since = t.since;
    more = t.more;
    given_are = t.given_are;
    few = omega (arith, le, t.few);
  }
