use Rattle.std.proofs.Common.{◌≡◌, ◌<◌, Option, None, is_some, ap, sym, subst, ◌∙◌, arith}
use Rattle.cf_budget.specs.Tables.{Table, table_of, has_stripe}
use Rattle.cf_hall_names.proofs.Eight.{eight}
use Rattle.cf_hall.specs.Standing.{IsStripe}
use Rattle.cf_hall.proofs.Resting.{taken_of, same_there}
use Rattle.cf_hall.proofs.taken.Taken.of.Goals as goal

pub put-second-requires : goal.put-second-requires
put-second-requires g c =
    let away : table_of c.put-first.new.lines 1 ≡ None = c.put-first.ensures.others 1 ∙ c.none-lines.ensures 1 in
    let below : 1 < 8 = omega arith in
    (omega arith, (omega arith, (below, away)))

pub put-third-requires : goal.put-third-requires
put-third-requires g c =
    let away : table_of c.put-second.new.lines 2 ≡ None = c.put-second.ensures.others 2 ∙ c.put-first.ensures.others 2 ∙ c.none-lines.ensures 2 in
    let below : 2 < 8 = omega arith in
    (omega arith, (omega arith, (below, away)))

pub put-fourth-requires : goal.put-fourth-requires
put-fourth-requires g c =
    let away : table_of c.put-third.new.lines 3 ≡ None = c.put-third.ensures.others 3 ∙ c.put-second.ensures.others 3 ∙ c.put-first.ensures.others 3 ∙ c.none-lines.ensures 3 in
    let below : 3 < 8 = omega arith in
    (omega arith, (omega arith, (below, away)))

pub put-fifth-requires : goal.put-fifth-requires
put-fifth-requires g c =
    let away : table_of c.put-fourth.new.lines 4 ≡ None = c.put-fourth.ensures.others 4 ∙ c.put-third.ensures.others 4 ∙ c.put-second.ensures.others 4 ∙ c.put-first.ensures.others 4 ∙ c.none-lines.ensures 4 in
    let below : 4 < 8 = omega arith in
    (omega arith, (omega arith, (below, away)))

pub put-sixth-requires : goal.put-sixth-requires
put-sixth-requires g c =
    let away : table_of c.put-fifth.new.lines 5 ≡ None = c.put-fifth.ensures.others 5 ∙ c.put-fourth.ensures.others 5 ∙ c.put-third.ensures.others 5 ∙ c.put-second.ensures.others 5 ∙ c.put-first.ensures.others 5 ∙ c.none-lines.ensures 5 in
    let below : 5 < 8 = omega arith in
    (omega arith, (omega arith, (below, away)))

pub put-seventh-requires : goal.put-seventh-requires
put-seventh-requires g c =
    let away : table_of c.put-sixth.new.lines 6 ≡ None = c.put-sixth.ensures.others 6 ∙ c.put-fifth.ensures.others 6 ∙ c.put-fourth.ensures.others 6 ∙ c.put-third.ensures.others 6 ∙ c.put-second.ensures.others 6 ∙ c.put-first.ensures.others 6 ∙ c.none-lines.ensures 6 in
    let below : 6 < 8 = omega arith in
    (omega arith, (omega arith, (below, away)))

pub put-eighth-requires : goal.put-eighth-requires
put-eighth-requires g c =
    let away : table_of c.put-seventh.new.lines 7 ≡ None = c.put-seventh.ensures.others 7 ∙ c.put-sixth.ensures.others 7 ∙ c.put-fifth.ensures.others 7 ∙ c.put-fourth.ensures.others 7 ∙ c.put-third.ensures.others 7 ∙ c.put-second.ensures.others 7 ∙ c.put-first.ensures.others 7 ∙ c.none-lines.ensures 7 in
    let below : 7 < 8 = omega arith in
    (omega arith, (omega arith, (below, away)))

pub invariant_of-result : goal.invariant_of-result
invariant_of-result g c =
    let at0 : table_of c.put-eighth.new.lines 0 ≡ table_of c.put-first.new.lines 0 = c.put-eighth.ensures.others 0 ∙ c.put-seventh.ensures.others 0 ∙ c.put-sixth.ensures.others 0 ∙ c.put-fifth.ensures.others 0 ∙ c.put-fourth.ensures.others 0 ∙ c.put-third.ensures.others 0 ∙ c.put-second.ensures.others 0 in
    let stands0 = subst (λ (o : Option Table). IsStripe g.N.City.table g.N.City.plan 0 o c.put-first.result) (sym at0) c.put-first.ensures.stands in
    let at1 : table_of c.put-eighth.new.lines 1 ≡ table_of c.put-second.new.lines 1 = c.put-eighth.ensures.others 1 ∙ c.put-seventh.ensures.others 1 ∙ c.put-sixth.ensures.others 1 ∙ c.put-fifth.ensures.others 1 ∙ c.put-fourth.ensures.others 1 ∙ c.put-third.ensures.others 1 in
    let stands1 = subst (λ (o : Option Table). IsStripe g.N.City.table g.N.City.plan 1 o c.put-second.result) (sym at1) c.put-second.ensures.stands in
    let at2 : table_of c.put-eighth.new.lines 2 ≡ table_of c.put-third.new.lines 2 = c.put-eighth.ensures.others 2 ∙ c.put-seventh.ensures.others 2 ∙ c.put-sixth.ensures.others 2 ∙ c.put-fifth.ensures.others 2 ∙ c.put-fourth.ensures.others 2 in
    let stands2 = subst (λ (o : Option Table). IsStripe g.N.City.table g.N.City.plan 2 o c.put-third.result) (sym at2) c.put-third.ensures.stands in
    let at3 : table_of c.put-eighth.new.lines 3 ≡ table_of c.put-fourth.new.lines 3 = c.put-eighth.ensures.others 3 ∙ c.put-seventh.ensures.others 3 ∙ c.put-sixth.ensures.others 3 ∙ c.put-fifth.ensures.others 3 in
    let stands3 = subst (λ (o : Option Table). IsStripe g.N.City.table g.N.City.plan 3 o c.put-fourth.result) (sym at3) c.put-fourth.ensures.stands in
    let at4 : table_of c.put-eighth.new.lines 4 ≡ table_of c.put-fifth.new.lines 4 = c.put-eighth.ensures.others 4 ∙ c.put-seventh.ensures.others 4 ∙ c.put-sixth.ensures.others 4 in
    let stands4 = subst (λ (o : Option Table). IsStripe g.N.City.table g.N.City.plan 4 o c.put-fifth.result) (sym at4) c.put-fifth.ensures.stands in
    let at5 : table_of c.put-eighth.new.lines 5 ≡ table_of c.put-sixth.new.lines 5 = c.put-eighth.ensures.others 5 ∙ c.put-seventh.ensures.others 5 in
    let stands5 = subst (λ (o : Option Table). IsStripe g.N.City.table g.N.City.plan 5 o c.put-sixth.result) (sym at5) c.put-sixth.ensures.stands in
    let at6 : table_of c.put-eighth.new.lines 6 ≡ table_of c.put-seventh.new.lines 6 = c.put-eighth.ensures.others 6 in
    let stands6 = subst (λ (o : Option Table). IsStripe g.N.City.table g.N.City.plan 6 o c.put-seventh.result) (sym at6) c.put-seventh.ensures.stands in
    let stands7 = c.put-eighth.ensures.stands in
    taken_of g.N.City.table g.N.City.plan c.put-eighth.new.lines _ (eight _ stands0 stands1 stands2 stands3 stands4 stands5 stands6 stands7)

pub returns-clause-there : goal.returns-clause-there
returns-clause-there g c =
    let at0 : table_of c.put-eighth.new.lines 0 ≡ table_of c.put-first.new.lines 0 = c.put-eighth.ensures.others 0 ∙ c.put-seventh.ensures.others 0 ∙ c.put-sixth.ensures.others 0 ∙ c.put-fifth.ensures.others 0 ∙ c.put-fourth.ensures.others 0 ∙ c.put-third.ensures.others 0 ∙ c.put-second.ensures.others 0 in
    let stands0 = subst (λ (o : Option Table). IsStripe g.N.City.table g.N.City.plan 0 o c.put-first.result) (sym at0) c.put-first.ensures.stands in
    let at1 : table_of c.put-eighth.new.lines 1 ≡ table_of c.put-second.new.lines 1 = c.put-eighth.ensures.others 1 ∙ c.put-seventh.ensures.others 1 ∙ c.put-sixth.ensures.others 1 ∙ c.put-fifth.ensures.others 1 ∙ c.put-fourth.ensures.others 1 ∙ c.put-third.ensures.others 1 in
    let stands1 = subst (λ (o : Option Table). IsStripe g.N.City.table g.N.City.plan 1 o c.put-second.result) (sym at1) c.put-second.ensures.stands in
    let at2 : table_of c.put-eighth.new.lines 2 ≡ table_of c.put-third.new.lines 2 = c.put-eighth.ensures.others 2 ∙ c.put-seventh.ensures.others 2 ∙ c.put-sixth.ensures.others 2 ∙ c.put-fifth.ensures.others 2 ∙ c.put-fourth.ensures.others 2 in
    let stands2 = subst (λ (o : Option Table). IsStripe g.N.City.table g.N.City.plan 2 o c.put-third.result) (sym at2) c.put-third.ensures.stands in
    let at3 : table_of c.put-eighth.new.lines 3 ≡ table_of c.put-fourth.new.lines 3 = c.put-eighth.ensures.others 3 ∙ c.put-seventh.ensures.others 3 ∙ c.put-sixth.ensures.others 3 ∙ c.put-fifth.ensures.others 3 in
    let stands3 = subst (λ (o : Option Table). IsStripe g.N.City.table g.N.City.plan 3 o c.put-fourth.result) (sym at3) c.put-fourth.ensures.stands in
    let at4 : table_of c.put-eighth.new.lines 4 ≡ table_of c.put-fifth.new.lines 4 = c.put-eighth.ensures.others 4 ∙ c.put-seventh.ensures.others 4 ∙ c.put-sixth.ensures.others 4 in
    let stands4 = subst (λ (o : Option Table). IsStripe g.N.City.table g.N.City.plan 4 o c.put-fifth.result) (sym at4) c.put-fifth.ensures.stands in
    let at5 : table_of c.put-eighth.new.lines 5 ≡ table_of c.put-sixth.new.lines 5 = c.put-eighth.ensures.others 5 ∙ c.put-seventh.ensures.others 5 in
    let stands5 = subst (λ (o : Option Table). IsStripe g.N.City.table g.N.City.plan 5 o c.put-sixth.result) (sym at5) c.put-sixth.ensures.stands in
    let at6 : table_of c.put-eighth.new.lines 6 ≡ table_of c.put-seventh.new.lines 6 = c.put-eighth.ensures.others 6 in
    let stands6 = subst (λ (o : Option Table). IsStripe g.N.City.table g.N.City.plan 6 o c.put-seventh.result) (sym at6) c.put-seventh.ensures.stands in
    let stands7 = c.put-eighth.ensures.stands in
    let there0 : has_stripe c.put-eighth.new.lines 0 ≡ is_some c.stripes.inside.first = same_there g.N.City.table g.N.City.plan 0 (table_of c.put-eighth.new.lines 0) c.put-first.result stands0 ∙ ap is_some c.put-first.ensures.same in
    let there1 : has_stripe c.put-eighth.new.lines 1 ≡ is_some c.stripes.inside.second = same_there g.N.City.table g.N.City.plan 1 (table_of c.put-eighth.new.lines 1) c.put-second.result stands1 ∙ ap is_some c.put-second.ensures.same in
    let there2 : has_stripe c.put-eighth.new.lines 2 ≡ is_some c.stripes.inside.third = same_there g.N.City.table g.N.City.plan 2 (table_of c.put-eighth.new.lines 2) c.put-third.result stands2 ∙ ap is_some c.put-third.ensures.same in
    let there3 : has_stripe c.put-eighth.new.lines 3 ≡ is_some c.stripes.inside.fourth = same_there g.N.City.table g.N.City.plan 3 (table_of c.put-eighth.new.lines 3) c.put-fourth.result stands3 ∙ ap is_some c.put-fourth.ensures.same in
    let there4 : has_stripe c.put-eighth.new.lines 4 ≡ is_some c.stripes.inside.fifth = same_there g.N.City.table g.N.City.plan 4 (table_of c.put-eighth.new.lines 4) c.put-fifth.result stands4 ∙ ap is_some c.put-fifth.ensures.same in
    let there5 : has_stripe c.put-eighth.new.lines 5 ≡ is_some c.stripes.inside.sixth = same_there g.N.City.table g.N.City.plan 5 (table_of c.put-eighth.new.lines 5) c.put-sixth.result stands5 ∙ ap is_some c.put-sixth.ensures.same in
    let there6 : has_stripe c.put-eighth.new.lines 6 ≡ is_some c.stripes.inside.seventh = same_there g.N.City.table g.N.City.plan 6 (table_of c.put-eighth.new.lines 6) c.put-seventh.result stands6 ∙ ap is_some c.put-seventh.ensures.same in
    let there7 : has_stripe c.put-eighth.new.lines 7 ≡ is_some c.stripes.inside.eighth = same_there g.N.City.table g.N.City.plan 7 (table_of c.put-eighth.new.lines 7) c.put-eighth.result stands7 ∙ ap is_some c.put-eighth.ensures.same in
    rw (← c.stripes.view_is) (eight _ there0 there1 there2 there3 there4 there5 there6 there7)
