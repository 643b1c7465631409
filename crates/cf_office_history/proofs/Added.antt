-- The posts that an accepted entry adds.
use Rattle.std.proofs.Common.{◌≡◌, ◌<◌, ◌^◌, List, [], ◌∷◌, ◌++◌, Option, Some, None, IfSome, sym, subst, ap, ◌∙◌, All}
use Rattle.cf_model.specs.Common.{Entry, Basis, Gov, Registers, registers_of, act_posts, posts_in, Adds, IsLegal}
use Rattle.cf_calls.specs.declared.read.Basis.TheVariants.{Fund}
use Rattle.cf_chart.specs.Common.{Plan}
use Rattle.cf_ledger.specs.declared.post.Post.{Post}
use Rattle.cf_ledger.specs.Posts.{sizes, IsInYears}
use Rattle.cf_model.proofs.Common.{IsWhole, posts_push, posts_years, posts_fit}
use Rattle.cf_registers.specs.AccountsState.{ready_on}
use Rattle.cf_office_history.specs.RestView.{IsReady}
use Rattle.cf_office_history.specs.declared.rest.Rest.TheInside.{Inside}

-- what an entry posts over a history
abbrev pub posts_next : Basis → Plan → List Entry → Entry → List Post
posts_next basis plan h e = act_posts basis plan (registers_of plan h) e.change.on e.change.act

pub ready_is : (basis : Basis) (plan : Plan) (h : List Entry) (e : Entry) (s : Registers) (ready : List Post) → s ≡ registers_of plan h →
    ready ≡ act_posts basis plan s e.change.on e.change.act → ready ≡ posts_next basis plan h e
ready_is basis plan h e s ready documents is = is ∙ ap (λ (t : Registers). act_posts basis plan t e.change.on e.change.act) documents

pub ready_years : (basis : Basis) (plan : Plan) (h : List Entry) (e : Entry) (ready : List Post) → ready ≡ posts_next basis plan h e → IsWhole plan →
    IsLegal plan h → Adds plan h e → All IsInYears ready
ready_years basis plan h e ready is whole legal adds = subst (All IsInYears) (sym is) (posts_years basis plan h e whole legal adds)

pub ready_fits : (basis : Basis) (plan : Plan) (h : List Entry) (e : Entry) (was ready : List Post) → was ≡ posts_in basis plan h → ready ≡ posts_next basis plan h e →
    IsWhole plan → IsLegal plan h → Adds plan h e → sizes (was ++ ready) < 2 ^ 127
ready_fits basis plan h e was ready stood is whole legal adds = subst (λ (ps : List Post). sizes ps < 2 ^ 127) (sym (λ i. stood i ++ is i)) (posts_fit basis plan h e whole.few_functions legal adds)

pub ready_added : (basis : Basis) (plan : Plan) (h : List Entry) (e : Entry) (was ready new : List Post) → was ≡ posts_in basis plan h → ready ≡ posts_next basis plan h e →
    new ≡ was ++ ready → new ≡ posts_in basis plan (h ++ e ∷ [])
ready_added basis plan h e was ready new stood is added = added ∙ (λ i. stood i ++ is i) ∙ sym (posts_push basis plan h e)

-- the posts of the entry that is ready
pub ready_posts : (basis : Basis) (a : Inside) (ready : Option Entry) (posts : List Post) → a.registers.registers ≡ registers_of a.chart a.entries.items → posts ≡ ready_on a.accounts basis →
    IfSome ready (IsReady a) → IfSome ready (λ e. posts ≡ posts_next basis a.chart a.entries.items e)
ready_posts basis a None posts registers is ready = tt
ready_posts Fund a (Some e) posts registers is ready = is ∙ ready_is Fund a.chart a.entries.items e a.registers.registers a.accounts.ready_fund registers ready.posts.fund
ready_posts Gov a (Some e) posts registers is ready = is ∙ ready_is Gov a.chart a.entries.items e a.registers.registers a.accounts.ready_gov registers ready.posts.gov
