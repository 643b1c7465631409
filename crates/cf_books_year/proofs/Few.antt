-- A trial balance has few accounts.
use Rattle.std.proofs.Common.{◌≡◌, ◌≤◌, ◌+◌, ◌==◌, ℕ, Bool, true, false, if◌then◌else◌, List, [], ◌∷◌, ◌++◌, map, length, arith, length-append, filter}
use Rattle.cf_base.proofs.Common.{length-map}
use Rattle.cf_model_articulation.specs.TrialBalances.{fund_accounts, gov_accounts}
use Rattle.cf_chart.specs.Common.{Plan}
use Rattle.cf_model.specs.Common.{Function, RevenueSource}
use Rattle.cf_post.specs.Accounts.{asset_sales, capital_outlay, current_of, donated_to, gain, interest, leases_issued, principal, proceeds, revenue_of, transfers_in, transfers_out}

filter_if : {A : Type 0} (b : Bool) (x : A) (ys xs : List A) → length ys ≤ length xs → length (if b then x ∷ ys else ys) ≤ length (x ∷ xs)
filter_if true x ys xs le = omega (arith, le)
filter_if false x ys xs le = omega (arith, le)

filter_le : {A : Type 0} (p : A → Bool) (xs : List A) → length (filter p xs) ≤ length xs
filter_le p [] = omega arith
filter_le p (x ∷ xs) = filter_if (p x) x (filter p xs) xs (filter_le p xs)

two_parts : {A B : Type 0} (f : A → ℕ) (xs : List A) (g : B → ℕ) (ys : List B) (back : List ℕ) → length (map f xs ++ (map g ys ++ back)) ≡ length xs + (length ys + length back)
two_parts f xs g ys back = simp (length-append, length-map)

three_parts : {A B C : Type 0} (f : A → ℕ) (xs : List A) (g : B → ℕ) (ys : List B) (h : C → ℕ) (zs : List C) (back : List ℕ) →
    length (map f xs ++ (map g ys ++ (map h zs ++ back))) ≡ length xs + (length ys + (length zs + length back))
three_parts f xs g ys h zs back = simp (length-append, length-map)

pub few_fund : (plan : Plan) (fund : ℕ) → length plan.sources ≤ 256 → length plan.functions ≤ 64 → length (fund_accounts plan fund) ≤ 1024
few_fund plan fund sources functions =
    let own : List RevenueSource = filter (λ (s : RevenueSource). s.fund == fund) plan.sources in
    let ends : List ℕ = capital_outlay ∷ principal ∷ interest ∷ transfers_in ∷ transfers_out ∷ proceeds ∷ asset_sales ∷ leases_issued ∷ [] in
    let parts : length (map (λ (s : RevenueSource). revenue_of s.id) own ++ (map (λ (f : Function). current_of f.id) plan.functions ++ ends)) ≡ length own + (length plan.functions + 8) =
    two_parts (λ (s : RevenueSource). revenue_of s.id) own (λ (f : Function). current_of f.id) plan.functions ends in
    let few : length own ≤ length plan.sources = filter_le (λ (s : RevenueSource). s.fund == fund) plan.sources in
    omega (arith, parts, few, sources, functions)

pub few_gov : (plan : Plan) → length plan.sources ≤ 256 → length plan.functions ≤ 64 → length (gov_accounts plan) ≤ 1024
few_gov plan sources functions =
    let ends : List ℕ = interest ∷ gain ∷ [] in
    let parts : length (map (λ (s : RevenueSource). revenue_of s.id) plan.sources ++ (map (λ (f : Function). current_of f.id) plan.functions ++ (map (λ (f : Function). donated_to f.id) plan.functions ++ ends)))
    ≡ length plan.sources + (length plan.functions + (length plan.functions + 2)) =
    three_parts (λ (s : RevenueSource). revenue_of s.id) plan.sources (λ (f : Function). current_of f.id) plan.functions (λ (f : Function). donated_to f.id) plan.functions ends in
    omega (arith, parts, sources, functions)
