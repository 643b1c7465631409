use Rattle.std.proofs.Common.{◌≡◌, ℕ, ◌<◌, List, [], ◌∷◌, Option, None, refl, sym, ap, subst}
use Rattle.cf_budget.specs.declared.changes.LineChange.{LineChange}
use Rattle.cf_hall_names.specs.Following.{AllFollow}
use Rattle.cf_hall_names.specs.Lists.{total_at}
use Rattle.cf_hall_names.proofs.Eight.{eight}
use Rattle.cf_turns.specs.Lists.{TaggedEntry}
use Rattle.cf_turns.specs.States.{RecorderState}
use Rattle.cf_hall.specs.TakenState.{AreTakenStripes}
use Rattle.cf_hall.proofs.Standing.{caught_up, tables_of, taken_own}
use Rattle.cf_hall.proofs.recording.Recording.catch_up.Goals as goal

-- no entry is left to be counted
abbrev none_left : List ℕ
none_left = 0 ∷ 0 ∷ 0 ∷ 0 ∷ 0 ∷ 0 ∷ 0 ∷ 0 ∷ []

no_more : (k : ℕ) → k < 8 → total_at none_left k ≡ 0
no_more = eight (λ k. total_at none_left k ≡ 0) refl refl refl refl refl refl refl refl

pub follow_all-requires-clause-ties : goal.follow_all-requires-clause-ties
follow_all-requires-clause-ties g c =
    taken_own g.N.City.table g.N.City.plan c.taken.inside.lines c.taken.inside.owed c.taken.inside.ties c.taken.invariant

pub invariant_of-taken : goal.invariant_of-taken
invariant_of-taken g c =
    let table = g.N.City.table in
    let plan = g.N.City.plan in
    let t = c.taken.inside in
    let list = c.self.inside.recorder.list in
    let none : t.owed ≡ None = rw (← c.taken.view_is) at c.requires.owes in
    let was = subst (λ (o : Option (List LineChange)). AreTakenStripes table plan t.lines o t.ties) none c.taken.invariant in
    let heard : c.hear.new.self.list ≡ list = ap (λ (r : RecorderState). r.list) c.hear.ensures.recorder in
    let follow = subst (λ (l : List TaggedEntry). AllFollow plan none_left t.ties l c.follow_all.new.ties) heard c.follow_all.ensures.ties in
    let caught = caught_up table plan t.lines list t.ties c.follow_all.new.ties none_left c.self.invariant.legal no_more was follow in
    subst (λ (o : Option (List LineChange)). AreTakenStripes table plan t.lines o c.follow_all.new.ties) (sym none) caught.0

pub returns-clause-seen : goal.returns-clause-seen
returns-clause-seen g c =
    let table = g.N.City.table in
    let plan = g.N.City.plan in
    let t = c.taken.inside in
    let list = c.self.inside.recorder.list in
    let none : t.owed ≡ None = rw (← c.taken.view_is) at c.requires.owes in
    let was = subst (λ (o : Option (List LineChange)). AreTakenStripes table plan t.lines o t.ties) none c.taken.invariant in
    let heard : c.hear.new.self.list ≡ list = ap (λ (r : RecorderState). r.list) c.hear.ensures.recorder in
    let follow = subst (λ (l : List TaggedEntry). AllFollow plan none_left t.ties l c.follow_all.new.ties) heard c.follow_all.ensures.ties in
    let caught = caught_up table plan t.lines list t.ties c.follow_all.new.ties none_left c.self.invariant.legal no_more was follow in
    rw (← c.self.view_is) caught.1

pub returns-clause-tables : goal.returns-clause-tables
returns-clause-tables g c =
    let table = g.N.City.table in
    let plan = g.N.City.plan in
    let t = c.taken.inside in
    let list = c.self.inside.recorder.list in
    let none : t.owed ≡ None = rw (← c.taken.view_is) at c.requires.owes in
    let was = subst (λ (o : Option (List LineChange)). AreTakenStripes table plan t.lines o t.ties) none c.taken.invariant in
    let heard : c.hear.new.self.list ≡ list = ap (λ (r : RecorderState). r.list) c.hear.ensures.recorder in
    let follow = subst (λ (l : List TaggedEntry). AllFollow plan none_left t.ties l c.follow_all.new.ties) heard c.follow_all.ensures.ties in
    let caught = caught_up table plan t.lines list t.ties c.follow_all.new.ties none_left c.self.invariant.legal no_more was follow in
    rw (← c.self.view_is) (tables_of table plan t.lines list c.follow_all.new.ties caught.0 caught.1)
