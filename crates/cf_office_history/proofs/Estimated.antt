-- The estimate of a revenue source stands in the one adoption of its fund's budget.
use Rattle.std.proofs.Common.{◌≡◌, ℕ, suc, ◌+◌, ◌-◌, ◌≤◌, Bool, true, false, not, if◌then◌else◌, ◌==◌, ◌&&◌, List, [], ◌∷◌, ◌++◌, map, Option, Some, None, find, slice_get, refl, sym, ap, ◌∙◌, arith}
use Rattle.cf_base.proofs.Common.{common_steps, sum_by_push}
use Rattle.cf_model.specs.Common.{Day, Act, Adopt, Entry, SourceAmount, RevenueSource, Documents, documents_of, amount_if, estimate, estimate_for, estimated_by, adopted_at, first_refusal, fund_name, is_source_of, line_name, name_refusal, place_from, source_name, unknown, Adds, IsLegal}
use Rattle.cf_calls.specs.declared.names.NameKind.TheVariants as kind
use Rattle.cf_calls.specs.declared.refusal.Refusal.TheVariants as refusal
use Rattle.cf_calls.specs.Common.{adoption_of, adopts}
use Rattle.cf_chart.specs.Common.{Plan, source_at}
use Rattle.cf_model.proofs.Common.{IsUnbroken, accepted, first_refusal-append, or_else_none, refuse_none, legal_induction}
use Rattle.cf_office_history.specs.Estimates.{estimated_at, estimated_in, estimates_of}
use Rattle.cf_office_history.proofs.LookedUp.{budget_new}

-- ---- the first entry that passes, by its place and in the list

place_least : (k : ℕ) (p : Entry → Bool) (h : List Entry) (n : ℕ) → place_from k p h ≡ Some n → k ≤ n
place_least k p [] n e = cc
place_least k p (x ∷ h) n e = by_test (p x) (place_least (k + 1) p h n) e
  where
    by_test : (b : Bool) → (place_from (k + 1) p h ≡ Some n → k + 1 ≤ n) → (if b then Some k else place_from (k + 1) p h) ≡ Some n → k ≤ n
    by_test true later e = let same : k ≡ n = cc in omega (arith, same)
    by_test false later e = omega (arith, later e)

-- the entry at a place, from k
abbrev entry_from : ℕ → List Entry → Option ℕ → Option Entry
entry_from k h None = None
entry_from k h (Some n) = slice_get h (n - k)

place_found : (k : ℕ) (p : Entry → Bool) (h : List Entry) → entry_from k h (place_from k p h) ≡ find p h
place_found k p [] = refl
place_found k p (x ∷ h) = by_test (p x) (place_found (k + 1) p h)
  where
    none : k - k ≡ 0
    none = omega arith

    one_more : (n : ℕ) → k + 1 ≤ n → n - k ≡ suc (n - (k + 1))
    one_more n l = omega (arith, l)

    later : (o : Option ℕ) → ((n : ℕ) → o ≡ Some n → k + 1 ≤ n) → entry_from k (x ∷ h) o ≡ entry_from (k + 1) h o
    later None l = refl
    later (Some n) l = ap (slice_get (x ∷ h)) (one_more n (l n refl))

    by_test : (b : Bool) → entry_from (k + 1) h (place_from (k + 1) p h) ≡ find p h →
        entry_from k (x ∷ h) (if b then Some k else place_from (k + 1) p h) ≡ (if b then Some x else find p h)
    by_test true found = ap (slice_get (x ∷ h)) none
    by_test false found = later (place_from (k + 1) p h) (place_least (k + 1) p h) ∙ found

abbrev or_last : Option Entry → Option Entry → Option Entry
or_last None last = last
or_last (Some x) last = Some x

find_push : (p : Entry → Bool) (h : List Entry) (e : Entry) → find p (h ++ e ∷ []) ≡ or_last (find p h) (if p e then Some e else None)
find_push p [] e = refl
find_push p (x ∷ h) e = by_test (p x) (find_push p h e)
  where
    by_test : (b : Bool) → find p (h ++ e ∷ []) ≡ or_last (find p h) (if p e then Some e else None) →
        (if b then Some x else find p (h ++ e ∷ [])) ≡ or_last (if b then Some x else find p h) (if p e then Some e else None)
    by_test true more = refl
    by_test false more = more

-- ---- an adoption estimates sources of its own fund alone

same_number : (a b : ℕ) → (a == b) ≡ true → a ≡ b
same_number a b e = grind (arith, common_steps)

own_sources : (plan : Plan) (s : Documents) (fund source : ℕ) (rows : List SourceAmount) → first_refusal (unknown plan s) (map (λ r. source_name fund r.source) rows) ≡ None →
    is_source_of fund (source_at plan source) ≡ false → estimate_for source rows ≡ 0
own_sources plan s fund source [] none other = refl
own_sources plan s fund source (r ∷ rows) none other =
    let both = or_else_none (unknown plan s (source_name fund r.source)) (first_refusal (unknown plan s) (map (λ x. source_name fund x.source) rows)) none in
    by_test (r.source == source) refl (turned _ (refuse_none _ (refusal.UnknownName kind.Source r.source) both.0)) (own_sources plan s fund source rows both.1 other)
  where
    turned : (b : Bool) → not b ≡ false → b ≡ true
    turned true e = refl
    turned false e = cc

    by_test : (b : Bool) → (r.source == source) ≡ b → is_source_of fund (source_at plan r.source) ≡ true → amount_if (find (λ x. x.source == source) rows) ≡ 0 →
        amount_if (if b then Some r else find (λ x. x.source == source) rows) ≡ 0
    by_test true is own later =
        let here : is_source_of fund (source_at plan source) ≡ true = ap (λ n. is_source_of fund (source_at plan n)) (sym (same_number r.source source is)) ∙ own in
        absurd (let P : true ≡ false = sym here ∙ other in cc)
    by_test false is own later = later

-- what an act that adopts no budget of the source's fund estimates of it
others_none : (plan : Plan) (s : Documents) (on : Day) (act : Act) (source year : ℕ) → name_refusal plan s on act ≡ None →
    ((fund : ℕ) → is_source_of fund (source_at plan source) ≡ true → adopts fund year act ≡ false) → estimated_by source year act ≡ 0
others_none plan s on (Adopt a) source year none other = by_test (a.year == year) refl (is_source_of a.fund (source_at plan source)) refl
  where
    names : first_refusal (unknown plan s) (map (λ r. source_name a.fund r.source) a.estimates) ≡ None
    names =
        let rest = or_else_none (unknown plan s (fund_name a.fund)) (first_refusal (unknown plan s) (map (λ r. line_name a.fund a.year r.line) a.lines ++ map (λ r. source_name a.fund r.source) a.estimates)) none in
        (or_else_none (first_refusal (unknown plan s) (map (λ r. line_name a.fund a.year r.line) a.lines)) (first_refusal (unknown plan s) (map (λ r. source_name a.fund r.source) a.estimates))
        (sym (first_refusal-append (unknown plan s) (map (λ r. line_name a.fund a.year r.line) a.lines) (map (λ r. source_name a.fund r.source) a.estimates)) ∙ rest.1)).1

    alike : (n : ℕ) → (n == n) ≡ true
    alike n = grind (arith, common_steps)

    by_test : (b : Bool) → (a.year == year) ≡ b → (own : Bool) → is_source_of a.fund (source_at plan source) ≡ own → (if b then estimate_for source a.estimates else 0) ≡ 0
    by_test false is own e = refl
    by_test true is false e = own_sources plan s a.fund source a.estimates names e
    by_test true is true e =
        let here : ((a.fund == a.fund) && (a.year == year)) ≡ true = λ i. alike a.fund i && is i in
        absurd (let P : true ≡ false = sym here ∙ other a.fund e in cc)
others_none plan s on _ source year none other = refl

adopting : (fund source year : ℕ) (act : Act) → adopts fund year act ≡ true → estimated_by source year act ≡ estimate_for source (estimates_of (adoption_of act))
adopting fund source year (Adopt a) e = by_test (a.fund == fund) (a.year == year) e
  where
    by_test : (b c : Bool) → (b && c) ≡ true → (if c then estimate_for source a.estimates else 0) ≡ estimate_for source a.estimates
    by_test true true e = refl
    by_test true false e = cc
    by_test false c e = cc
adopting fund source year _ e = cc

-- ---- the law

record HasEstimates (plan : Plan) (h : List Entry) : Type 0 where
  pub known : (source year : ℕ) (s : RevenueSource) → source_at plan source ≡ Some s → estimate source year h ≡ estimated_in source (find (λ e. adopts s.fund year e.change.act) h)
  pub unknown : (source year : ℕ) → source_at plan source ≡ None → estimate source year h ≡ 0

none_more : (n m : ℕ) → n ≡ 0 → m ≡ 0 → n + m ≡ 0
none_more n m a b = omega (arith, a, b)

find_none : (p : Entry → Bool) (h : List Entry) → place_from 1 p h ≡ None → find p h ≡ None
find_none p h none = sym (place_found 1 p h) ∙ ap (entry_from 1 h) none

estimates_push : (plan : Plan) (h : List Entry) (e : Entry) → HasEstimates plan h → Adds plan h e → HasEstimates plan (h ++ e ∷ [])
estimates_push plan h e is adds = record {
  known = λ source year s there. sum_by_push (λ x. estimated_by source year x.change.act) h e ∙ by_test source year s there (adopts s.fund year e.change.act) refl;
  unknown = λ source year none. sum_by_push (λ x. estimated_by source year x.change.act) h e
      ∙ none_more _ _ (is.unknown source year none) (others_none plan (documents_of plan h) e.change.on e.change.act source year a.names (λ fund own. absurd (nobody fund source none own)));
}
  where
    a : IsUnbroken plan h e
    a = accepted plan h e adds

    nobody : (fund source : ℕ) → source_at plan source ≡ None → is_source_of fund (source_at plan source) ≡ true → ⊥
    nobody fund source none own = let P : false ≡ true = sym (ap (is_source_of fund) none) ∙ own in cc

    zero_first : (n : ℕ) → 0 + n ≡ n
    zero_first n = omega arith

    by_test : (source year : ℕ) (s : RevenueSource) → source_at plan source ≡ Some s → (b : Bool) → adopts s.fund year e.change.act ≡ b →
        estimate source year h + estimated_by source year e.change.act ≡ estimated_in source (find (λ x. adopts s.fund year x.change.act) (h ++ e ∷ []))
    by_test source year s there true t =
        let p : Entry → Bool = λ x. adopts s.fund year x.change.act in
        let before : find p h ≡ None = find_none p h (budget_new h e.change.act s.fund year a.adopted t) in
        let found : find p (h ++ e ∷ []) ≡ Some e = find_push p h e ∙ (λ i. or_last (before i) (if t i then Some e else None)) in
        let none : estimate source year h ≡ 0 = is.known source year s there ∙ ap (estimated_in source) before in
        let sum : estimate source year h + estimated_by source year e.change.act ≡ 0 + estimate_for source (estimates_of (adoption_of e.change.act)) =
        λ i. none i + adopting s.fund source year e.change.act t i in
        sum ∙ zero_first (estimate_for source (estimates_of (adoption_of e.change.act))) ∙ sym (ap (estimated_in source) found)
    by_test source year s there false t =
        let p : Entry → Bool = λ x. adopts s.fund year x.change.act in
        let still : find p (h ++ e ∷ []) ≡ find p h = find_push p h e ∙ ap (λ b. or_last (find p h) (if b then Some e else None)) t ∙ or_none (find p h) in
        let none : estimated_by source year e.change.act ≡ 0 = others_none plan (documents_of plan h) e.change.on e.change.act source year a.names (λ fund own. ap (λ n. adopts n year e.change.act) (fund_is fund source s there own) ∙ t) in
        same_sum _ _ none ∙ is.known source year s there ∙ sym (ap (estimated_in source) still)
      where
        or_none : (o : Option Entry) → or_last o None ≡ o
        or_none None = refl
        or_none (Some x) = refl

        same_sum : (n m : ℕ) → m ≡ 0 → n + m ≡ n
        same_sum n m z = omega (arith, z)

        fund_is : (fund source : ℕ) (s : RevenueSource) → source_at plan source ≡ Some s → is_source_of fund (source_at plan source) ≡ true → fund ≡ s.fund
        fund_is fund source s there own = sym (same_number s.fund fund (sym (ap (is_source_of fund) there) ∙ own))

estimates_are : (plan : Plan) (h : List Entry) → IsLegal plan h → HasEstimates plan h
estimates_are plan h legal = legal_induction plan (HasEstimates plan) (record { known = λ source year s there. refl; unknown = λ source year none. refl }) (estimates_push plan) h legal

-- the estimate of a source of the chart is in the entry at the place of its fund's adoption
pub estimate_is : (plan : Plan) (h : List Entry) → IsLegal plan h → (source year : ℕ) (s : RevenueSource) → source_at plan source ≡ Some s →
    estimate source year h ≡ estimated_at source h (adopted_at s.fund year h)
estimate_is plan h legal source year s there =
    (estimates_are plan h legal).known source year s there
    ∙ sym (ap (estimated_in source) (place_found 1 (λ e. adopts s.fund year e.change.act) h))
    ∙ at_place (adopted_at s.fund year h)
  where
    at_place : (o : Option ℕ) → estimated_in source (entry_from 1 h o) ≡ estimated_at source h o
    at_place None = refl
    at_place (Some n) = refl

-- and one that isn't of the chart has none
pub no_estimate : (plan : Plan) (h : List Entry) → IsLegal plan h → (source year : ℕ) → source_at plan source ≡ None → estimate source year h ≡ 0
no_estimate plan h legal source year none = (estimates_are plan h legal).unknown source year none
