-- An accepted change's reply, and no other, names its place as its own.
use Rattle.std.proofs.Common.{◌≡◌, ℕ, List, [], ◌∷◌, ◌++◌, length, Bool, true, false, Option, Some, None, refl, sym, ap, subst, arith, length-append, if◌then◌else◌}
use Rattle.cf_model.specs.Common.{Call, Change, Entry, NameKind, Read, Refusal, Body, Verdict, Accept, Repeat, Refuse, Shown, unknown_fund, unknown_dept, ahead_refusal, or_else, body_of, next_of, next_by, change_body, verdict_of, is_there_in, shown_of, or_refused, unless_refused}
use Rattle.cf_calls.specs.declared.call.Call.TheVariants as call
use Rattle.cf_calls.specs.declared.read.Read.TheVariants as read
use Rattle.cf_chart.specs.Common.{Plan, line_at}
use Rattle.cf_serve_laws.specs.PassTalks.{place_by}

pub longer_not : (h : List Entry) (e : Entry) → h ≡ h ++ e ∷ [] → ⊥
longer_not h e is = omega (arith, ap length is, length-append h (e ∷ []))

-- ---- changes

added_by : (plan : Plan) (at : ℕ) (h : List Entry) (c : Change) (v : Verdict) (b : Body) (e : Entry) → change_body plan h c v ≡ b → next_by v h c ≡ h ++ e ∷ [] → place_by at b ≡ at ∷ []
added_by plan at h c (Accept d) b e is next = ap (place_by at) (sym is)
added_by plan at h c (Repeat was) b e is next = absurd (longer_not h e next)
added_by plan at h c (Refuse r) b e is next = absurd (longer_not h e next)

kept_by : (plan : Plan) (at : ℕ) (h : List Entry) (c : Change) (v : Verdict) (b : Body) → change_body plan h c v ≡ b → next_by v h c ≡ h → place_by at b ≡ []
kept_by plan at h c (Accept d) b is next = absurd (longer_not h (record { change = record c { after = None }; drawn = d }) (sym next))
kept_by plan at h c (Repeat was) b is next = ap (place_by at) (sym is)
kept_by plan at h c (Refuse r) b is next = ap (place_by at) (sym is)

-- ---- looks

-- the body of no accepted change
abbrev IsPlaceless : Body → Type 0
IsPlaceless b = (at : ℕ) → place_by at b ≡ []

or_refused_is : (kind : NameKind) (id : ℕ) (s : Option Shown) → IsPlaceless (or_refused kind id s)
or_refused_is kind id None = λ at. refl
or_refused_is kind id (Some s) = λ at. refl

unless_is : (x : Option Refusal) (b : Body) → IsPlaceless b → IsPlaceless (unless_refused x b)
unless_is None b s = s
unless_is (Some r) b s = λ at. refl

if_is : (b : Bool) (x y : Body) → IsPlaceless x → IsPlaceless y → IsPlaceless (if b then x else y)
if_is true x y s t = s
if_is false x y s t = t

look_is : (plan : Plan) (h : List Entry) (r : Read) → IsPlaceless (shown_of plan h r)
look_is plan h (read.Line line year) = if_is (is_there_in plan year (line_at plan line)) _ _ (λ at. refl) (λ at. refl)
look_is plan h (read.Requisition n) = or_refused_is _ n _
look_is plan h (read.Order n) = or_refused_is _ n _
look_is plan h (read.Voucher n) = or_refused_is _ n _
look_is plan h (read.Bill n) = or_refused_is _ n _
look_is plan h (read.Asset n) = or_refused_is _ n _
look_is plan h (read.Bond n) = or_refused_is _ n _
look_is plan h (read.Leave fund dept) = unless_is (or_else (unknown_fund plan fund) (unknown_dept plan dept)) _ (λ at. refl)
look_is plan h (read.Account basis year fund account) = λ at. refl
look_is plan h (read.Reconcile year) = λ at. refl
look_is plan h (read.Report year kind) = λ at. refl

-- ---- calls

pub added_place : (plan : Plan) (h : List Entry) (c : Call) (at : ℕ) (b : Body) (e : Entry) → body_of plan h c ≡ b → next_of plan h c ≡ h ++ e ∷ [] → place_by at b ≡ at ∷ []
added_place plan h (call.Change c) at b e is next = added_by plan at h c (verdict_of plan h c) b e is next
added_place plan h (call.Look l) at b e is next = absurd (longer_not h e next)

pub kept_place : (plan : Plan) (h : List Entry) (c : Call) (at : ℕ) (b : Body) → body_of plan h c ≡ b → next_of plan h c ≡ h → place_by at b ≡ []
kept_place plan h (call.Change c) at b is next = kept_by plan at h c (verdict_of plan h c) b is next
kept_place plan h (call.Look l) at b is next =
    subst (λ (x : Body). place_by at x ≡ []) is (unless_is (ahead_refusal l.after (length h)) (shown_of plan h l.read) (look_is plan h l.read) at)
