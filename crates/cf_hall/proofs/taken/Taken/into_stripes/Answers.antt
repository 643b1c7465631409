use Rattle.std.proofs.Common.{◌≡◌, ◌<◌, List, Option, None, sym, subst, ◌∙◌, arith}
use Rattle.cf_budget.specs.declared.changes.LineChange.{LineChange}
use Rattle.cf_budget.specs.Tables.{Table, table_of}
use Rattle.cf_hall.specs.Standing.{IsStripe}
use Rattle.cf_hall.specs.TakenState.{AreTakenStripes}
use Rattle.cf_hall.proofs.Resting.{rest_of}
use Rattle.cf_hall.proofs.taken.Taken.into_stripes.Goals as goal

pub take_out-first-requires : goal.take_out-first-requires
take_out-first-requires g c =
    let table = g.N.City.table in
    let plan = g.N.City.plan in
    let none : c.self.inside.owed ≡ None = rw (← c.self.view_is) at c.requires in
    let t = subst (λ (o : Option (List LineChange)). AreTakenStripes table plan c.self.inside.lines o c.self.inside.ties) none c.self.invariant in
    let each : IsStripe table plan 0 (table_of c.self.inside.lines 0) c.ties.inside.first = rw (← c.ties.view_is) at (rest_of table plan c.self.inside.lines c.self.inside.ties t 0 (omega arith)) in
    let below : 0 < 8 = omega arith in
    (omega arith, (omega arith, (below, each)))

pub take_out-second-requires : goal.take_out-second-requires
take_out-second-requires g c =
    let table = g.N.City.table in
    let plan = g.N.City.plan in
    let none : c.self.inside.owed ≡ None = rw (← c.self.view_is) at c.requires in
    let t = subst (λ (o : Option (List LineChange)). AreTakenStripes table plan c.self.inside.lines o c.self.inside.ties) none c.self.invariant in
    let each : IsStripe table plan 1 (table_of c.self.inside.lines 1) c.ties.inside.second = rw (← c.ties.view_is) at (rest_of table plan c.self.inside.lines c.self.inside.ties t 1 (omega arith)) in
    let at : table_of c.take_out-first.new.lines 1 ≡ table_of c.self.inside.lines 1 = c.take_out-first.ensures.others 1 in
    let below : 1 < 8 = omega arith in
    (omega arith, (omega arith, (below, subst (λ (o : Option Table). IsStripe table plan 1 o c.ties.inside.second) (sym at) each)))

pub take_out-third-requires : goal.take_out-third-requires
take_out-third-requires g c =
    let table = g.N.City.table in
    let plan = g.N.City.plan in
    let none : c.self.inside.owed ≡ None = rw (← c.self.view_is) at c.requires in
    let t = subst (λ (o : Option (List LineChange)). AreTakenStripes table plan c.self.inside.lines o c.self.inside.ties) none c.self.invariant in
    let each : IsStripe table plan 2 (table_of c.self.inside.lines 2) c.ties.inside.third = rw (← c.ties.view_is) at (rest_of table plan c.self.inside.lines c.self.inside.ties t 2 (omega arith)) in
    let at : table_of c.take_out-second.new.lines 2 ≡ table_of c.self.inside.lines 2 = c.take_out-second.ensures.others 2 ∙ c.take_out-first.ensures.others 2 in
    let below : 2 < 8 = omega arith in
    (omega arith, (omega arith, (below, subst (λ (o : Option Table). IsStripe table plan 2 o c.ties.inside.third) (sym at) each)))

pub take_out-fourth-requires : goal.take_out-fourth-requires
take_out-fourth-requires g c =
    let table = g.N.City.table in
    let plan = g.N.City.plan in
    let none : c.self.inside.owed ≡ None = rw (← c.self.view_is) at c.requires in
    let t = subst (λ (o : Option (List LineChange)). AreTakenStripes table plan c.self.inside.lines o c.self.inside.ties) none c.self.invariant in
    let each : IsStripe table plan 3 (table_of c.self.inside.lines 3) c.ties.inside.fourth = rw (← c.ties.view_is) at (rest_of table plan c.self.inside.lines c.self.inside.ties t 3 (omega arith)) in
    let at : table_of c.take_out-third.new.lines 3 ≡ table_of c.self.inside.lines 3 = c.take_out-third.ensures.others 3 ∙ c.take_out-second.ensures.others 3 ∙ c.take_out-first.ensures.others 3 in
    let below : 3 < 8 = omega arith in
    (omega arith, (omega arith, (below, subst (λ (o : Option Table). IsStripe table plan 3 o c.ties.inside.fourth) (sym at) each)))

pub take_out-fifth-requires : goal.take_out-fifth-requires
take_out-fifth-requires g c =
    let table = g.N.City.table in
    let plan = g.N.City.plan in
    let none : c.self.inside.owed ≡ None = rw (← c.self.view_is) at c.requires in
    let t = subst (λ (o : Option (List LineChange)). AreTakenStripes table plan c.self.inside.lines o c.self.inside.ties) none c.self.invariant in
    let each : IsStripe table plan 4 (table_of c.self.inside.lines 4) c.ties.inside.fifth = rw (← c.ties.view_is) at (rest_of table plan c.self.inside.lines c.self.inside.ties t 4 (omega arith)) in
    let at : table_of c.take_out-fourth.new.lines 4 ≡ table_of c.self.inside.lines 4 = c.take_out-fourth.ensures.others 4 ∙ c.take_out-third.ensures.others 4 ∙ c.take_out-second.ensures.others 4 ∙ c.take_out-first.ensures.others 4 in
    let below : 4 < 8 = omega arith in
    (omega arith, (omega arith, (below, subst (λ (o : Option Table). IsStripe table plan 4 o c.ties.inside.fifth) (sym at) each)))

pub take_out-sixth-requires : goal.take_out-sixth-requires
take_out-sixth-requires g c =
    let table = g.N.City.table in
    let plan = g.N.City.plan in
    let none : c.self.inside.owed ≡ None = rw (← c.self.view_is) at c.requires in
    let t = subst (λ (o : Option (List LineChange)). AreTakenStripes table plan c.self.inside.lines o c.self.inside.ties) none c.self.invariant in
    let each : IsStripe table plan 5 (table_of c.self.inside.lines 5) c.ties.inside.sixth = rw (← c.ties.view_is) at (rest_of table plan c.self.inside.lines c.self.inside.ties t 5 (omega arith)) in
    let at : table_of c.take_out-fifth.new.lines 5 ≡ table_of c.self.inside.lines 5 = c.take_out-fifth.ensures.others 5 ∙ c.take_out-fourth.ensures.others 5 ∙ c.take_out-third.ensures.others 5 ∙ c.take_out-second.ensures.others 5 ∙ c.take_out-first.ensures.others 5 in
    let below : 5 < 8 = omega arith in
    (omega arith, (omega arith, (below, subst (λ (o : Option Table). IsStripe table plan 5 o c.ties.inside.sixth) (sym at) each)))

pub take_out-seventh-requires : goal.take_out-seventh-requires
take_out-seventh-requires g c =
    let table = g.N.City.table in
    let plan = g.N.City.plan in
    let none : c.self.inside.owed ≡ None = rw (← c.self.view_is) at c.requires in
    let t = subst (λ (o : Option (List LineChange)). AreTakenStripes table plan c.self.inside.lines o c.self.inside.ties) none c.self.invariant in
    let each : IsStripe table plan 6 (table_of c.self.inside.lines 6) c.ties.inside.seventh = rw (← c.ties.view_is) at (rest_of table plan c.self.inside.lines c.self.inside.ties t 6 (omega arith)) in
    let at : table_of c.take_out-sixth.new.lines 6 ≡ table_of c.self.inside.lines 6 = c.take_out-sixth.ensures.others 6 ∙ c.take_out-fifth.ensures.others 6 ∙ c.take_out-fourth.ensures.others 6 ∙ c.take_out-third.ensures.others 6 ∙ c.take_out-second.ensures.others 6 ∙ c.take_out-first.ensures.others 6 in
    let below : 6 < 8 = omega arith in
    (omega arith, (omega arith, (below, subst (λ (o : Option Table). IsStripe table plan 6 o c.ties.inside.seventh) (sym at) each)))

pub take_out-eighth-requires : goal.take_out-eighth-requires
take_out-eighth-requires g c =
    let table = g.N.City.table in
    let plan = g.N.City.plan in
    let none : c.self.inside.owed ≡ None = rw (← c.self.view_is) at c.requires in
    let t = subst (λ (o : Option (List LineChange)). AreTakenStripes table plan c.self.inside.lines o c.self.inside.ties) none c.self.invariant in
    let each : IsStripe table plan 7 (table_of c.self.inside.lines 7) c.ties.inside.eighth = rw (← c.ties.view_is) at (rest_of table plan c.self.inside.lines c.self.inside.ties t 7 (omega arith)) in
    let at : table_of c.take_out-seventh.new.lines 7 ≡ table_of c.self.inside.lines 7 = c.take_out-seventh.ensures.others 7 ∙ c.take_out-sixth.ensures.others 7 ∙ c.take_out-fifth.ensures.others 7 ∙ c.take_out-fourth.ensures.others 7 ∙ c.take_out-third.ensures.others 7 ∙ c.take_out-second.ensures.others 7 ∙ c.take_out-first.ensures.others 7 in
    let below : 7 < 8 = omega arith in
    (omega arith, (omega arith, (below, subst (λ (o : Option Table). IsStripe table plan 7 o c.ties.inside.eighth) (sym at) each)))
