-- What is seen of one entry more.
use Rattle.std.proofs.Common.{◌≡◌, ℕ, ◌+◌, length, arith, List, [], ◌∷◌, ◌++◌, sym, ap, subst, ◌∙◌, append-nil, Option, Some, IfSome}
use Rattle.cf_model.specs.Common.{Entry, Registers, registers_of, registers_after, registers_step, no_registers, Gov as GovBasis, act_posts, Adds}
use Rattle.cf_chart.specs.Common.{Plan}
use Rattle.cf_budget.specs.declared.changes.LineChange.{LineChange}
use Rattle.cf_calls.specs.declared.read.Basis.TheVariants.{Fund as FundBasis}
use Rattle.cf_ledger.specs.declared.post.Post.{Post}
use Rattle.cf_office.specs.BookState.{BookState, IsPrepared}
use Rattle.cf_office.specs.declared.prepared.Prepared.{Prepared}
use Rattle.cf_registers.specs.Moved.{Make, moved_by}
use Rattle.cf_journal_book.specs.Watching.{Posted, IsNext, posted_over, posted_after, all_posted, next_posted, shown_as}

posted_after_push : (plan : Plan) (s : Registers) (n : ℕ) (h : List Entry) (e : Entry) →
    posted_after plan s n (h ++ e ∷ []) ≡ posted_after plan s n h ++ posted_over plan (registers_after plan s h) (length h + n) e ∷ []
posted_after_push plan s n [] e = let same : n ≡ 0 + n = omega arith in ap (λ m. posted_over plan s m e ∷ []) same
posted_after_push plan s n (x ∷ h) e =
    let moved : length h + (n + 1) ≡ length (x ∷ h) + n = omega arith in
    ap (λ t. posted_over plan s n x ∷ t)
    (posted_after_push plan (registers_step plan s x) (n + 1) h e
    ∙ ap (λ m. posted_after plan (registers_step plan s x) (n + 1) h ++ posted_over plan (registers_after plan (registers_step plan s x) h) m e ∷ []) moved)

pub posted_push : (plan : Plan) (h : List Entry) (e : Entry) → all_posted plan (h ++ e ∷ []) ≡ all_posted plan h ++ next_posted plan h e ∷ []
posted_push plan h e = posted_after_push plan no_registers 1 h e

-- the same under the chart and over the entries of an office
pub seen_on : (seen : Plan → List Posted → Type 0) (plan chart : Plan) (office yielded : List Entry) → plan ≡ chart → office ≡ yielded → seen chart (all_posted chart yielded) → seen plan (all_posted plan office)
seen_on seen plan chart office yielded p o so_far =
    subst (λ (x : Plan). seen x (all_posted x office)) (sym p) (subst (λ (h : List Entry). seen chart (all_posted chart h)) (sym o) so_far)

-- what is shown is the next entry over the history before it
pub shown_is : (plan : Plan) (h : List Entry) (e : Entry) (place : ℕ) (before : Registers) (fund gov : List Post) → place ≡ length h + 1 → before ≡ registers_of plan h →
    fund ≡ act_posts FundBasis plan (registers_of plan h) e.change.on e.change.act → gov ≡ act_posts GovBasis plan (registers_of plan h) e.change.on e.change.act →
    shown_as place e before fund gov ≡ next_posted plan h e
shown_is plan h e place before fund gov p b f g = λ i. record { place = p i; entry = e; before = b i; fund = f i; gov = g i }

abbrev IsAdded : Plan → List Entry → List LineChange → Entry → Type 0
IsAdded plan h changes e = Adds plan h e × Make plan (moved_by plan (registers_of plan h) e.change.on e.change.act) changes

pub prepared_next : (office : BookState) (prepared : Prepared) (was e : Entry) (changes : List LineChange) (x : Posted) → IsPrepared office prepared was → office.ready ≡ Some e →
    changes ≡ prepared.lines → x ≡ next_posted office.plan office.entries e → IsNext office.plan office.entries x changes
prepared_next office prepared was e changes x is ready lines shown =
    let added : IsAdded office.plan office.entries changes was = (is.adds, subst (Make office.plan (moved_by office.plan (registers_of office.plan office.entries) was.change.on was.change.act)) (sym lines) is.moves) in
    let now : IsAdded office.plan office.entries changes e = subst (λ (o : Option Entry). IfSome o (IsAdded office.plan office.entries changes)) (sym is.ready ∙ ready) added in
    subst (λ (y : Posted). IsNext office.plan office.entries y changes) (sym shown) (record { legal = is.legal; adds = now.0; posted = λ _. next_posted office.plan office.entries e; makes = now.1 })

-- and then all of the history with it is seen
pub next_seen : (seen : Plan → List Posted → Type 0) (plan chart : Plan) (h : List Entry) (e : Entry) (x : Posted) → chart ≡ plan → x ≡ next_posted plan h e →
    seen chart (all_posted chart h ++ x ∷ []) → seen plan (all_posted plan (h ++ e ∷ []))
next_seen seen plan chart h e x same is now =
    subst (seen plan) (sym (posted_push plan h e))
    (subst (λ (y : Posted). seen plan (all_posted plan h ++ y ∷ [])) is (subst (λ (p : Plan). seen p (all_posted p h ++ x ∷ [])) same now))

pub all_taken : (all yielded rest : List Entry) → all ≡ yielded ++ rest → rest ≡ [] → all ≡ yielded
all_taken all yielded rest is none = is ∙ ap (λ (x : List Entry). yielded ++ x) none ∙ append-nil yielded
