-- What is looked up of a history, after one entry more.
use Rattle.std.proofs.Common.{◌≡◌, ℕ, suc, ◌+◌, Bool, true, false, if◌then◌else◌, ◌==◌, ◌&&◌, List, [], ◌∷◌, ◌++◌, length, Option, Some, None, refl, sym, ap, ◌∙◌, arith, bytes_eq}
use Rattle.cf_base.proofs.Common.{common_steps}
use Rattle.cf_model.specs.Common.{Act, Adopt, Change, Drawn, Entry, Refusal, Accept, Repeat, Refuse, place_from, adopted_at, adopted_refusal, adopted_where, first_of, Adds, verdict_after, verdict_new, is_same, entry_at, known_at, first_rules}
use Rattle.cf_calls.specs.declared.refusal.Refusal.TheVariants as refusal
use Rattle.cf_calls.specs.Common.{adopts}
use Rattle.cf_calls.specs.Same.{same_key}
use Rattle.cf_chart.specs.Common.{Plan}
use Rattle.cf_model.proofs.Common.{accepted}
use Rattle.cf_office_history.specs.Keys.{place_of}
use Rattle.cf_office_history.proofs.Texts.{same_bytes}

-- ---- the first place, with one entry more

abbrev after : Option ℕ → Option ℕ → Option ℕ
after None other = other
after (Some n) other = Some n

place_push : (n : ℕ) (p : Entry → Bool) (h : List Entry) (e : Entry) →
    place_from n p (h ++ e ∷ []) ≡ after (place_from n p h) (if p e then Some (n + length h) else None)
place_push n p [] e = ap (λ m. if p e then Some m else None) (no_more n)
  where
    no_more : (n : ℕ) → n ≡ n + 0
    no_more n = omega arith
place_push n p (x ∷ h) e = by_test (p x) (place_push (n + 1) p h e)
  where
    moved : n + 1 + length h ≡ n + suc (length h)
    moved = omega arith

    by_test : (b : Bool) → place_from (n + 1) p (h ++ e ∷ []) ≡ after (place_from (n + 1) p h) (if p e then Some (n + 1 + length h) else None) →
        (if b then Some n else place_from (n + 1) p (h ++ e ∷ [])) ≡ after (if b then Some n else place_from (n + 1) p h) (if p e then Some (n + suc (length h)) else None)
    by_test true more = refl
    by_test false more = more ∙ ap (λ m. after (place_from (n + 1) p h) (if p e then Some m else None)) moved

-- an entry that passes where none before does is at the end, and another changes no place
pub place_new : (p : Entry → Bool) (h : List Entry) (e : Entry) → (p e ≡ true → place_from 1 p h ≡ None) →
    place_from 1 p (h ++ e ∷ []) ≡ (if p e then Some (suc (length h)) else place_from 1 p h)
place_new p h e fresh = place_push 1 p h e ∙ by_test (p e) refl
  where
    one : 1 + length h ≡ suc (length h)
    one = omega arith

    alone : (o : Option ℕ) → after o None ≡ o
    alone None = refl
    alone (Some n) = refl

    by_test : (b : Bool) → p e ≡ b → after (place_from 1 p h) (if b then Some (1 + length h) else None) ≡ (if b then Some (suc (length h)) else place_from 1 p h)
    by_test true is = rw (fresh is) (ap Some one)
    by_test false is = alone (place_from 1 p h)

-- a register with the new place stands for the longer history
pub place_put : (p : Entry → Bool) (h : List Entry) (e : Entry) (was now : ℕ) → (p e ≡ true → place_from 1 p h ≡ None) →
    place_of was ≡ place_from 1 p h → now ≡ (if p e then suc (length h) else was) → place_of now ≡ place_from 1 p (h ++ e ∷ [])
place_put p h e was now fresh stood is = ap place_of is ∙ by_test (p e) ∙ sym (place_new p h e fresh)
  where
    by_test : (b : Bool) → place_of (if b then suc (length h) else was) ≡ (if b then Some (suc (length h)) else place_from 1 p h)
    by_test true = refl
    by_test false = stood

-- ---- desks and keys

accepted_after : (plan : Plan) (h : List Entry) (c : Change) (drawn : Drawn) (r : Option Refusal) → verdict_after plan h c r ≡ Accept drawn →
    verdict_new plan h c (known_at h c) ≡ Accept drawn
accepted_after plan h c drawn None e = e
accepted_after plan h c drawn (Some r) e = cc

known_never : (b : Bool) (was : ℕ) (drawn : Drawn) → (if b then Repeat was else Refuse (refusal.KeyReused was)) ≡ Accept drawn → ⊥
known_never true was drawn e = cc
known_never false was drawn e = cc

new_only : (plan : Plan) (h : List Entry) (c : Change) (drawn : Drawn) (k : Option ℕ) → verdict_new plan h c k ≡ Accept drawn → k ≡ None
new_only plan h c drawn None e = refl
new_only plan h c drawn (Some was) e = absurd (known_never (is_same c (entry_at h was)) was drawn e)

-- an accepted entry's key is new to its desk
pub key_new : (plan : Plan) (h : List Entry) (e : Entry) → Adds plan h e → known_at h e.change ≡ None
key_new plan h e adds =
    let c = e.change in
    new_only plan h c e.drawn (known_at h c) (accepted_after plan h c e.drawn (first_of (first_rules plan h c)) adds.accepts)

both : (a b : Bool) → (a && b) ≡ true → (a ≡ true) × (b ≡ true)
both true b e = (refl, e)
both false b e = cc

number : (a b : ℕ) → (a == b) ≡ true → a ≡ b
number a b e = grind (arith, common_steps)

flip : (a b : ℕ) → (a == b) ≡ (b == a)
flip a b = grind (arith, common_steps)

flip_bytes : (a b : List ℕ) → bytes_eq a b ≡ bytes_eq b a
flip_bytes [] [] = refl
flip_bytes [] (y ∷ b) = refl
flip_bytes (x ∷ a) [] = refl
flip_bytes (x ∷ a) (y ∷ b) = λ i. flip x y i && flip_bytes a b i

pub known_put : (plan : Plan) (h : List Entry) (e : Entry) (desk : ℕ) (key : List ℕ) (was now : ℕ) → Adds plan h e →
    place_of was ≡ place_from 1 (λ x. same_key desk key x.change) h →
    now ≡ (if (e.change.desk == desk) && bytes_eq e.change.key key then suc (length h) else was) →
    place_of now ≡ place_from 1 (λ x. same_key desk key x.change) (h ++ e ∷ [])
known_put plan h e desk key was now adds stood is =
    place_put (λ x. same_key desk key x.change) h e was now fresh stood
    (is ∙ (λ i. if flip e.change.desk desk i && flip_bytes e.change.key key i then suc (length h) else was))
  where
    fresh : same_key desk key e.change ≡ true → place_from 1 (λ x. same_key desk key x.change) h ≡ None
    fresh t =
        let b = both _ _ t in
        let d = number desk e.change.desk b.0 in
        let k = same_bytes key e.change.key b.1 in
        (λ i. place_from 1 (λ x. same_key (d i) (k i) x.change) h) ∙ key_new plan h e adds

-- ---- adopted budgets

where_none : (o : Option ℕ) → adopted_where o ≡ None → o ≡ None
where_none None e = refl
where_none (Some n) e = cc

pub budget_new : (h : List Entry) (act : Act) (fund year : ℕ) → adopted_refusal h act ≡ None → adopts fund year act ≡ true → adopted_at fund year h ≡ None
budget_new h (Adopt a) fund year none t =
    let b = both _ _ t in
    (λ i. adopted_at (sym (number a.fund fund b.0) i) (sym (number a.year year b.1) i) h) ∙ where_none (adopted_at a.fund a.year h) none
budget_new h _ fund year none t = cc

pub adopted_put : (plan : Plan) (h : List Entry) (e : Entry) (fund year : ℕ) (was now : ℕ) → Adds plan h e →
    place_of was ≡ adopted_at fund year h → now ≡ (if adopts fund year e.change.act then suc (length h) else was) →
    place_of now ≡ adopted_at fund year (h ++ e ∷ [])
adopted_put plan h e fund year was now adds stood is =
    place_put (λ x. adopts fund year x.change.act) h e was now (budget_new h e.change.act fund year (accepted plan h e adds).adopted) stood is
