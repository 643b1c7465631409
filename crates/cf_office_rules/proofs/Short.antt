-- The funds that are short of cash, where an act takes cash of at most one.
use Rattle.std.proofs.Common.{◌≡◌, ℕ, ◌+◌, Bool, true, false, not, if◌then◌else◌, ◌==◌, List, [], ◌∷◌, Option, Some, None, is_some, find, sum_by, refl, sym, ap, subst, ◌∙◌, arith, option_to_list, filter}
use Rattle.cf_base.proofs.Common.{common_steps}
use Rattle.cf_model.specs.Common.{Day, Act, Pay, PayDue, Leave, Interfund, DebtPayment, FundMove, Earn, Use, Mature, LeaveMaturity, Entry, Refusal, Object, Bond, Due, next_due, year_of_day, cash_short, cash_refusal, cash_taken, due_cash, is_current, is_interest, is_principal, Documents, documents_of, no_documents, cash_of, payment_year, register_name_refusal, unknown_bond, unknown_payment, registers_of, bond_at, or_else, first_refusal, unknown, unknown_account, fund_name, name_refusal}
use Rattle.cf_calls.specs.declared.names.NameKind.TheVariants as kind
use Rattle.cf_calls.specs.declared.refusal.Refusal.TheVariants as refusal
use Rattle.cf_chart.specs.declared.rows.Fund.{Fund}
use Rattle.cf_chart.specs.Common.{Plan, fund_at}
use Rattle.cf_debt.specs.Register.{due_if, due_now}
use Rattle.cf_model.proofs.Common.{or_else_none, refuse_none}
use Rattle.cf_registers.specs.Dues.{due_amount}

-- no fund that is asked for nothing is short
pub none_short : (plan : Plan) (h : List Entry) (xs : List Fund) → first_refusal (λ f. cash_short f.id (cash_of plan f.id h) 0) xs ≡ None
none_short plan h [] = refl
none_short plan h (f ∷ xs) = none_short plan h xs

-- one fund is asked
abbrev asked : Plan → List Entry → ℕ → ℕ → Fund → Option Refusal
asked plan h from amount f = cash_short f.id (cash_of plan f.id h) (if from == f.id then amount else 0)

abbrev short : Plan → List Entry → ℕ → ℕ → Option Refusal
short plan h from amount = cash_short from (cash_of plan from h) amount

same : (a b : ℕ) → (a == b) ≡ true → a ≡ b
same a b e = grind (arith, common_steps)

flip : (a b : ℕ) → (a == b) ≡ (b == a)
flip a b = grind (arith, common_steps)

asked_is : (plan : Plan) (h : List Entry) (from amount : ℕ) (f : Fund) (b : Bool) → (from == f.id) ≡ b → asked plan h from amount f ≡ (if b then short plan h from amount else None)
asked_is plan h from amount f true e = rw e (ap (λ (n : ℕ). cash_short n (cash_of plan n h) amount) (sym (same from f.id e)))
asked_is plan h from amount f false e = rw e refl

-- further on the same is found or nothing
again : (plan : Plan) (h : List Entry) (from amount : ℕ) (xs : List Fund) → or_else (short plan h from amount) (first_refusal (asked plan h from amount) xs) ≡ short plan h from amount
again plan h from amount [] = by_case (short plan h from amount)
  where
    by_case : (r : Option Refusal) → or_else r None ≡ r
    by_case None = refl
    by_case (Some r) = refl
again plan h from amount (f ∷ xs) =
    ap (λ r. or_else (short plan h from amount) (or_else r (first_refusal (asked plan h from amount) xs))) (asked_is plan h from amount f (from == f.id) refl)
    ∙ by_test (from == f.id) (short plan h from amount) (first_refusal (asked plan h from amount) xs) (again plan h from amount xs)
  where
    by_test : (b : Bool) (r s : Option Refusal) → or_else r s ≡ r → or_else r (or_else (if b then r else None) s) ≡ r
    by_test true None s e = e
    by_test true (Some r) s e = refl
    by_test false r s e = e

-- what a fund of the chart is asked
pub one_short : (plan : Plan) (h : List Entry) (from amount : ℕ) (xs : List Fund) → is_some (find (λ f. f.id == from) xs) ≡ true →
    first_refusal (λ f. cash_short f.id (cash_of plan f.id h) (if from == f.id then amount else 0)) xs ≡ cash_short from (cash_of plan from h) amount
one_short plan h from amount [] there = cc
one_short plan h from amount (f ∷ xs) there =
    ap (λ r. or_else r (first_refusal (asked plan h from amount) xs)) (asked_is plan h from amount f (from == f.id) refl)
    ∙ by_test (from == f.id) refl there (one_short plan h from amount xs)
  where
    by_test : (b : Bool) → (from == f.id) ≡ b → is_some (if f.id == from then Some f else find (λ g. g.id == from) xs) ≡ true →
        (is_some (find (λ g. g.id == from) xs) ≡ true → first_refusal (asked plan h from amount) xs ≡ short plan h from amount) →
        or_else (if b then short plan h from amount else None) (first_refusal (asked plan h from amount) xs) ≡ short plan h from amount
    by_test true e t later = again plan h from amount xs
    by_test false e t later = later (rw (flip f.id from, e) at t)

-- a name that is there
there : (plan : Plan) (s : Documents) (fund : ℕ) → unknown plan s (fund_name fund) ≡ None → is_some (fund_at plan fund) ≡ true
there plan s fund e = by_test (is_some (fund_at plan fund)) (refuse_none (not (is_some (fund_at plan fund))) (refusal.UnknownName kind.Fund fund) e)
  where
    by_test : (b : Bool) → not b ≡ false → b ≡ true
    by_test true e = refl
    by_test false e = cc

-- a transfer, a loan or a repayment takes cash of one fund
pub moved_short : (plan : Plan) (h : List Entry) (on : Day) (act : Act) (m : FundMove) → Interfund m ≡ act → name_refusal plan (documents_of plan h) on act ≡ None →
    cash_short m.from (cash_of plan m.from h) m.amount ≡ cash_refusal plan h act
moved_short plan h on act m is named =
    let s = documents_of plan h in
    let names : name_refusal plan s on (Interfund m) ≡ None = subst (λ (x : Act). name_refusal plan s on x ≡ None) (sym is) named in
    let first = or_else_none (unknown plan s (fund_name m.from)) (or_else (unknown plan s (fund_name m.to)) None) names in
    sym (one_short plan h m.from m.amount plan.funds (there plan s m.from first.0)) ∙ ap (cash_refusal plan h) is

-- the account of an act's names is of a fund of the chart
account_there : (plan : Plan) (is_fit : Option Object → Bool) (year fund dept object : ℕ) → unknown_account plan is_fit year fund dept object ≡ None → is_some (fund_at plan fund) ≡ true
account_there plan is_fit year fund dept object none =
    there plan no_documents fund (or_else_none (unknown plan no_documents (fund_name fund)) _ none).0

-- leave that is paid out takes cash of its fund
pub leave_short : (plan : Plan) (h : List Entry) (on : Day) (act : Act) (l : LeaveMaturity) → Leave (Mature l) ≡ act → register_name_refusal plan (registers_of plan h) on act ≡ None →
    cash_short l.fund (cash_of plan l.fund h) l.amount ≡ cash_refusal plan h act
leave_short plan h on act l is named =
    let names : register_name_refusal plan (registers_of plan h) on (Leave (Mature l)) ≡ None = subst (λ (x : Act). register_name_refusal plan (registers_of plan h) on x ≡ None) (sym is) named in
    sym (one_short plan h l.fund l.amount plan.funds (account_there plan is_current (year_of_day plan on) l.fund l.dept l.object names)) ∙ ap (cash_refusal plan h) is

-- a debt payment takes the cash of its principal and its interest of its fund, and none where
-- nothing is left to pay
due_taken : (plan : Plan) (fund from : ℕ) (o : Option Bond) → sum_by (λ b. if from == fund then due_cash b (next_due b) else 0) (option_to_list o) ≡ (if from == fund then due_amount (due_now plan o) else 0)
due_taken plan fund from None = by_test (from == fund)
  where
    by_test : (b : Bool) → (let n : ℕ = 0 in n) ≡ (if b then 0 else 0)
    by_test true = refl
    by_test false = refl
due_taken plan fund from (Some b) = by_test (from == fund) ∙ ap (λ n. if from == fund then n else 0) (by_next (next_due b))
  where
    by_test : (t : Bool) → sum_by (λ b. if t then due_cash b (next_due b) else 0) (b ∷ []) ≡ (if t then due_cash b (next_due b) else 0)
    by_test true = no_more (due_cash b (next_due b))
      where
        no_more : (n : ℕ) → 0 + n ≡ n
        no_more n = omega arith
    by_test false = refl

    by_next : (o : Option Due) → due_cash b o ≡ due_amount (due_if plan b o)
    by_next None = refl
    by_next (Some p) = refl

pub payment_short : (plan : Plan) (h : List Entry) (on : Day) (p : DebtPayment) → filter (λ b. b.number == p.bond) (registers_of plan h).bonds ≡ option_to_list (bond_at p.bond (registers_of plan h).bonds) →
    register_name_refusal plan (registers_of plan h) on (PayDue p) ≡ None →
    cash_short p.fund (cash_of plan p.fund h) (due_amount (due_now plan (bond_at p.bond (registers_of plan h).bonds))) ≡ cash_refusal plan h (PayDue p)
payment_short plan h on p alone named =
    let s = registers_of plan h in
    let year = payment_year plan (year_of_day plan on) (bond_at p.bond s.bonds) in
    let accounts = or_else_none (unknown_bond s.bonds p.bond) (unknown_payment plan year p) named in
    let first = or_else_none (unknown_account plan is_principal year p.fund p.dept p.principal) (unknown_account plan is_interest year p.fund p.dept p.interest) accounts.1 in
    sym (one_short plan h p.fund (due_amount (due_now plan (bond_at p.bond s.bonds))) plan.funds (account_there plan is_principal year p.fund p.dept p.principal first.0))
    ∙ (λ i. first_refusal (λ f. cash_short f.id (cash_of plan f.id h) (sym (taken f.id) i)) plan.funds)
  where
    taken : (fund : ℕ) → cash_taken (registers_of plan h) fund (PayDue p) ≡ (if p.fund == fund then due_amount (due_now plan (bond_at p.bond (registers_of plan h).bonds)) else 0)
    taken fund = ap (λ (bonds : List Bond). sum_by (λ b. if p.fund == fund then due_cash b (next_due b) else 0) bonds) alone ∙ due_taken plan fund p.fund (bond_at p.bond (registers_of plan h).bonds)

-- whether an act takes cash of a fund
abbrev pub takes_cash : Act → Bool
takes_cash (Pay p) = true
takes_cash (PayDue p) = true
takes_cash (Leave (Mature l)) = true
takes_cash (Interfund m) = true
takes_cash _ = false

-- no fund is short for an act that takes none
pub nothing_short : (plan : Plan) (h : List Entry) (act : Act) → takes_cash act ≡ false → None ≡ cash_refusal plan h act
nothing_short plan h (Pay p) none = cc
nothing_short plan h (PayDue p) none = cc
nothing_short plan h (Leave (Earn l)) none = sym (none_short plan h plan.funds)
nothing_short plan h (Leave (Use l)) none = sym (none_short plan h plan.funds)
nothing_short plan h (Leave (Mature l)) none = cc
nothing_short plan h (Interfund m) none = cc
nothing_short plan h _ none = sym (none_short plan h plan.funds)
