-- A desk reads on, and ends.
use Rattle.std.proofs.Common.{◌≡◌, ℕ, suc, ◌<◌, ◌≤◌, ◌+◌, ◌-◌, ◌^◌, List, [], ◌∷◌, ◌++◌, length, take, slice_index, append_assoc, ap, ◌∙◌, sym, refl, arith, subst, Option, inr, length-append}
use Rattle.cf_base.proofs.Common.{Consumes, Consumes-nil, Consumes-trans, Appends-nil, append-nil, length-take-le, All-nil, take-suc}
use Rattle.cf_base_lines.specs.Lines.{NoNewline, OfWholeLines, OfFront}
use Rattle.cf_base_lines.specs.Talk.{Rule}
use Rattle.cf_base_lines.specs.Run.{Moment, moment_of, GaveFront, Outcome}
use Rattle.cf_base_lines.specs.State.{IsLine, State, state_of, IsAt, Feeds, Breaks, Reading}
use Rattle.cf_base_lines.specs.declared.line.Line.{Line}
use Rattle.cf_base_lines.specs.declared.ended.Ended.TheVariants as status
use Rattle.cf_base_lines.proofs.Feeding.{gave_whole, breaks_in}
use Rattle.cf_base_lines.proofs.Telling.{told_all}

pub reading_start : {O : Type 0} (rule : Rule O) (accepted : O → ℕ) (office : O) (held left : Option (List ℕ)) (line : Line) (pending : List ℕ) → IsLine line [] → pending ≡ []
    → Reading rule accepted (moment_of office held) left (state_of office held line pending) left 1099511627777
reading_start rule accepted office held left line pending fresh none = record {
  taken = [];
  took = Consumes-nil left;
  counted = refl;
  at = record {
    whole = [];
    rest = [];
    answers = [];
    given = [];
    cut = record { joins = refl; whole_lines = All-nil NoNewline; rest_line = All-nil (λ b. b ≡ 10 → ⊥) };
    talk = refl;
    joins = sym none;
    gave = Appends-nil held;
    told = told_all rule accepted office office [] [] [] 0 refl refl;
    line = fresh;
  };
}

-- a chunk was read, and its bytes were fed
pub reads_on : {O : Type 0} (rule : Rule O) (accepted : O → ℕ) (start : Moment O) (first left left' : Option (List ℕ)) (state new : State O) (chunk piece : List ℕ) (most most' n : ℕ)
    → (r : Reading rule accepted start first state left most) → Consumes left left' (take n chunk) → n ≤ length chunk → piece ≡ take n chunk → most' + n ≡ most
    → Feeds rule accepted state new piece → Reading rule accepted start first new left' most'
reads_on rule accepted start first left left' state new chunk piece most most' n r took le p m feeds = record {
  taken = r.taken ++ take n chunk;
  took = Consumes-trans first left left' r.taken (take n chunk) r.took took;
  counted = (let a : length (r.taken ++ take n chunk) ≡ length r.taken + length (take n chunk) = length-append r.taken (take n chunk) in
      let b : length (take n chunk) ≡ n = length-take-le n chunk le in
      let k : length r.taken + most ≡ 2 ^ 40 + 1 = r.counted in omega (arith, a, b, k, m));
  at = subst (λ (l : List ℕ). IsAt rule accepted start new (r.taken ++ l)) p (feeds start r.taken r.at);
}

-- a write fails, within what was taken
pub ends_unwritten : {O : Type 0} (rule : Rule O) (accepted : O → ℕ) (start now : Moment O) (first left left' : Option (List ℕ)) (state : State O) (chunk piece more : List ℕ) (most n : ℕ)
    → (r : Reading rule accepted start first state left most) → Consumes left left' (take n chunk) → take n chunk ≡ piece ++ more → Breaks rule accepted state now piece
    → Outcome rule accepted start now first left' status.WriteFault
ends_unwritten rule accepted start now first left left' state chunk piece more most n r took e breaks =
    let s : OfFront (λ front. OfWholeLines (GaveFront rule accepted start now) (r.taken ++ front)) (piece ++ more) = breaks_in rule accepted state now piece more breaks start r.taken r.at in
    record {
      taken = r.taken ++ take n chunk;
      took = Consumes-trans first left left' r.taken (take n chunk) r.took took;
      ends = inr (record {
        front = r.taken ++ s.front;
        back = s.back;
        joins = ap (λ l. r.taken ++ l) (e ∙ s.joins) ∙ sym (append_assoc r.taken s.front s.back);
        holds = s.holds;
      });
    }

-- the input goes on past the limit
pub ends_limited : {O : Type 0} (rule : Rule O) (accepted : O → ℕ) (start : Moment O) (first left left' : Option (List ℕ)) (state new : State O) (chunk piece : List ℕ) (more most n : ℕ)
    → (r : Reading rule accepted start first state left most) → Consumes left left' (take n chunk) → n ≤ length chunk → take n chunk ≡ piece ++ more ∷ [] → most ≡ n → new.pending ≡ []
    → Feeds rule accepted state new piece → Outcome rule accepted start (moment_of new.office new.held) first left' status.InputLimit
ends_limited rule accepted start first left left' state new chunk piece more most n r took le p m none feeds = record {
  taken = r.taken ++ take n chunk;
  took = Consumes-trans first left left' r.taken (take n chunk) r.took took;
  ends = record {
    limit = r.taken ++ piece;
    more = more;
    joins = ap (λ l. r.taken ++ l) p ∙ sym (append_assoc r.taken piece (more ∷ []));
    count = (let a : length (r.taken ++ piece) ≡ length r.taken + length piece = length-append r.taken piece in
        let b : length (take n chunk) ≡ n = length-take-le n chunk le in
        let d : length (take n chunk) ≡ length piece + 1 = ap length p ∙ length-append piece (more ∷ []) in
        let k : length r.taken + most ≡ 2 ^ 40 + 1 = r.counted in omega (arith, a, b, d, k, m));
    holds = gave_whole rule accepted new none start (r.taken ++ piece) (feeds start r.taken r.at);
  };
}

-- all bytes of a read
pub all_read : (chunk piece : List ℕ) (n : ℕ) → piece ≡ take n chunk → take n chunk ≡ piece ++ []
all_read chunk piece n p = sym p ∙ sym (append-nil piece)

-- all bytes of a read but its last one
pub but_one : (chunk piece : List ℕ) (n : ℕ) → 0 < n → n ≤ length chunk → piece ≡ take (n - 1) chunk → take n chunk ≡ piece ++ slice_index chunk (n - 1) ∷ []
but_one chunk piece n some le p =
    let m : n ≡ suc (n - 1) = omega arith in
    let cut : take (suc (n - 1)) chunk ≡ take (n - 1) chunk ++ slice_index chunk (n - 1) ∷ [] = take-suc chunk (n - 1) 0 (omega arith) in
    ap (λ (k : ℕ). take k chunk) m ∙ cut ∙ ap (λ l. l ++ slice_index chunk (n - 1) ∷ []) (sym p)
