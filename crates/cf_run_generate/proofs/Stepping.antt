-- One step of the generator's office.
use Rattle.std.proofs.Common.{◌≡◌, ℕ, zero, suc, ◌+◌, ◌<◌, ◌≤◌, ◌++◌, ◌∷◌, [], List, Some, None, refl, sym, ap, arith, ◌∙◌}
use Rattle.cf_model.specs.Common.{Change, Drawn, Entry, Verdict, Accept, Repeat, Refuse, next_by, next_of, verdict_of}
use Rattle.cf_calls.specs.declared.call.Call.TheVariants as call
use Rattle.cf_chart.specs.Common.{Plan}
use Rattle.cf_run_generate.specs.Acts.{act_of, change_of}
use Rattle.cf_run_generate.specs.Generated.{after, drawn, drawn_by, entry_by}
use Rattle.cf_run_generate.specs.Turns.{turn_after}
use Rattle.cf_run_generate.specs.declared.turn.Turn.{Turn}

pub drawn_none : (v : Verdict) (h : List Entry) (c : Change) → drawn_by v ≡ None → next_by v h c ≡ h
drawn_none (Accept d) h c e = absurd cc
drawn_none (Repeat was) h c e = refl
drawn_none (Refuse r) h c e = refl

pub drawn_some : (v : Verdict) (d : Drawn) → drawn_by v ≡ Some d → v ≡ Accept d
drawn_some (Accept x) d e = cc
drawn_some (Repeat was) d e = absurd cc
drawn_some (Refuse r) d e = absurd cc

pub after_append : (plan : Plan) (h : List Entry) (cs ds : List Change) → after plan h (cs ++ ds) ≡ after plan (after plan h cs) ds
after_append plan h [] ds = refl
after_append plan h (c ∷ cs) ds = after_append plan (next_of plan h (call.Change c)) cs ds

-- one drawn call more is taken
pub went_on : (plan : Plan) (goal h h' : List Entry) (left i n : ℕ) (t t' : Turn) → i + left ≡ n → i < n → t' ≡ turn_after t → h' ≡ next_of plan h (call.Change (change_of (i + 7) (act_of t)))
    → after plan h (drawn left (i + 7) t) ≡ goal → (m : ℕ) × (i + 1 + m ≡ n) × (after plan h' (drawn m (i + 1 + 7) t') ≡ goal)
unfolding drawn
went_on plan goal h h' zero i n t t' e lt te he is = absurd (omega (arith, e, lt))
went_on plan goal h h' (suc m) i n t t' e lt te he is =
    let number : i + 1 + 7 ≡ i + 7 + 1 = omega arith in
    let same : after plan h' (drawn m (i + 1 + 7) t') ≡ after plan (next_of plan h (call.Change (change_of (i + 7) (act_of t)))) (drawn m (i + 7 + 1) (turn_after t)) =
    λ j. after plan (he j) (drawn m (number j) (te j)) in
    (m, omega (arith, e), same ∙ is)

-- and none is left
pub went_through : (plan : Plan) (goal h : List Entry) (left i n : ℕ) (t : Turn) → i + left ≡ n → n ≤ i → after plan h (drawn left (i + 7) t) ≡ goal → h ≡ goal
unfolding drawn
went_through plan goal h zero i n t e le is = is
went_through plan goal h (suc m) i n t e le is = absurd (omega (arith, e, le))

pub next_some : (plan : Plan) (h : List Entry) (c : Change) (d : Drawn) → verdict_of plan h c ≡ Accept d → h ++ entry_by c d ∷ [] ≡ next_of plan h (call.Change c)
next_some plan h c d e = ap (λ v. next_by v h c) (sym e)

-- three calls, one after another
pub three : (plan p1 p2 : Plan) (h h1 h2 h3 : List Entry) (c1 c2 c3 : Change) → p1 ≡ plan → p2 ≡ p1 → h1 ≡ next_of plan h (call.Change c1) → h2 ≡ next_of p1 h1 (call.Change c2)
    → h3 ≡ next_of p2 h2 (call.Change c3) → h3 ≡ after plan h (c1 ∷ c2 ∷ c3 ∷ [])
three plan p1 p2 h h1 h2 h3 c1 c2 c3 q1 q2 s1 s2 s3 =
    let second : h2 ≡ next_of plan (next_of plan h (call.Change c1)) (call.Change c2) = s2 ∙ (λ j. next_of (q1 j) (s1 j) (call.Change c2)) in
    s3 ∙ (λ j. next_of ((q2 ∙ q1) j) (second j) (call.Change c3))

-- the calls of a run, part after part
pub four : (plan p1 p2 p3 : Plan) (h h1 h2 h3 h4 : List Entry) (a r d : List Change) (m : Change) → p1 ≡ plan → p2 ≡ p1 → p3 ≡ p2 → h1 ≡ after plan h a → h2 ≡ after p1 h1 r → h3 ≡ after p2 h2 d
    → h4 ≡ next_of p3 h3 (call.Change m) → h4 ≡ after plan h (a ++ (r ++ (d ++ m ∷ [])))
four plan p1 p2 p3 h h1 h2 h3 h4 a r d m q1 q2 q3 s1 s2 s3 s4 =
    let x = after plan h a in
    let y = after plan x r in
    let second : h2 ≡ y = s2 ∙ (λ j. after (q1 j) (s1 j) r) in
    let third : h3 ≡ after plan y d = s3 ∙ (λ j. after ((q2 ∙ q1) j) (second j) d) in
    let last : h4 ≡ next_of plan (after plan y d) (call.Change m) = s4 ∙ (λ j. next_of ((q3 ∙ (q2 ∙ q1)) j) (third j) (call.Change m)) in
    last ∙ sym (after_append plan h a (r ++ (d ++ m ∷ [])) ∙ after_append plan x r (d ++ m ∷ []) ∙ after_append plan y d (m ∷ []))
