use Rattle.std.proofs.Common.{arith, length-append, ◌∷◌, [], ◌++◌, ◌≡◌, ◌+◌, ◌<◌, ◌≤◌, ◌==◌, ◌&&◌, ◌∙◌, if◌then◌else◌, length, suc, sym, subst, List, ℕ, ap, Option, Some, IfSome, unwrap_or, bytes_eq}
use Rattle.cf_model.specs.Common.{Entry, Gov, open_year_after, Adds}
use Rattle.cf_calls.specs.declared.read.Basis.TheVariants.{Fund}
use Rattle.cf_office_history.proofs.Added.{ready_is, ready_added, ready_years, ready_fits}
use Rattle.cf_calls.specs.Common.{adopts}
use Rattle.cf_register_parts.specs.Pairs.{value_of}
use Rattle.cf_model.proofs.Common.{accepted_fits, legal_push, open_year_push, years_are}
use Rattle.cf_office_history.specs.Keys.{key_number}
use Rattle.cf_office_history.specs.RestView.{IsReady}
use Rattle.cf_office_history.proofs.LookedUp.{known_put, adopted_put}
use Rattle.cf_registers.proofs.Taken.{can_take_in, made_in, taken_in}
use Rattle.cf_office_history.proofs.rest.Rest.apply.Goals as goal
use Rattle.cf_base.specs.Common.{most_entries}

pub invariant_of-self-2 : goal.invariant_of-self-2
invariant_of-self-2 c =
    let plan = c.self.inside.chart in
    let h = c.self.inside.entries.items in
    let e = c.in-Some.entry in
    let is : c.self.inside.ready ≡ Some e = sym c.take.ensures.value ∙ c.in-Some.is in
    let ready : IsReady c.self.inside e = subst (λ (o : Option Entry). IfSome o (IsReady c.self.inside)) is c.self.invariant.ready in
    let adds : Adds plan h e = ready.adds in
    let few : length h < most_entries = accepted_fits plan h e adds in
    let fund = ready_is Fund plan h e c.self.inside.registers.registers c.self.inside.accounts.ready_fund c.self.invariant.registers ready.posts.fund in
    let gov = ready_is Gov plan h e c.self.inside.registers.registers c.self.inside.accounts.ready_gov c.self.invariant.registers ready.posts.gov in
    let items : c.push_reserved-2.new.self.items ≡ h ++ e ∷ [] = c.push_reserved-2.ensures.items in
    let at : c.len.result + 1 ≡ suc (length h) = omega (arith, c.len.ensures) in
    let known : (d : ℕ) (q : List ℕ) → key_number c.note_place.new.known d q ≡ (if (e.change.desk == d) && bytes_eq e.change.key q then suc (length h) else key_number c.self.inside.known d q) =
    λ d q. c.note_place.ensures d q ∙ (λ i. if (e.change.desk == d) && bytes_eq e.change.key q then at i else key_number c.self.inside.known d q) in
    let adopted : (fund year : ℕ) → unwrap_or (value_of c.put_budget.new.adopted.entries fund year) 0 ≡ (if adopts fund year e.change.act then suc (length h) else unwrap_or (value_of c.self.inside.adopted.entries fund year) 0) =
    λ fund year. c.put_budget.ensures fund year ∙ (λ i. if adopts fund year e.change.act then at i else unwrap_or (value_of c.self.inside.adopted.entries fund year) 0) in
    record {
      legal = rw items (legal_push plan h e c.self.invariant.legal adds);
      few = rw (items, length-append h (e ∷ [])) (omega arith);
      known = λ d q. rw items (known_put plan h e d q (key_number c.self.inside.known d q) (key_number c.note_place.new.known d q) adds (c.self.invariant.known d q) (known d q));
      adopted = λ fund year. rw items (adopted_put plan h e fund year (unwrap_or (value_of c.self.inside.adopted.entries fund year) 0) (unwrap_or (value_of c.put_budget.new.adopted.entries fund year) 0) adds (c.self.invariant.adopted fund year) (adopted fund year));
      registers = rw items (taken_in plan h e c.self.inside.registers.registers c.apply-2.new.self.registers c.self.invariant.registers c.apply-2.ensures.registers);
      results = rw items (made_in plan h e c.self.inside.results.items c.push_reserved.new.self.items c.made_of-made.result c.self.inside.registers.registers c.self.invariant.results c.self.invariant.registers c.made_of-made.ensures c.push_reserved.ensures.items);
      taken = rw (items, length-append h (e ∷ [])) (c.apply-2.ensures.taken (length h) c.self.invariant.taken);
      first_year = c.self.invariant.first_year;
      years = rw items (c.open_year_after-self-inside.ensures ∙ ap (open_year_after e.change.act) c.self.invariant.years ∙ sym (open_year_push plan h e c.self.invariant.legal adds));
      fund = rw items (ready_added Fund plan h e c.self.inside.accounts.fund c.self.inside.accounts.ready_fund _ c.self.invariant.fund fund c.apply.ensures.fund);
      gov = rw items (ready_added Gov plan h e c.self.inside.accounts.gov c.self.inside.accounts.ready_gov _ c.self.invariant.gov gov c.apply.ensures.gov);
      ready = rw c.take.ensures.after tt;
    }

pub apply-requires-2 : goal.apply-requires-2
apply-requires-2 c =
    let is : c.self.inside.ready ≡ Some c.in-Some.entry = sym c.take.ensures.value ∙ c.in-Some.is in
    let ready : IsReady c.self.inside c.in-Some.entry = subst (λ (o : Option Entry). IfSome o (IsReady c.self.inside)) is c.self.invariant.ready in
    can_take_in c.self.inside.chart c.self.inside.entries.items c.in-Some.entry c.self.inside.registers c.whole.ensures c.self.invariant.legal ready.adds c.self.invariant.registers c.self.invariant.taken ready.registers

pub apply-requires-clause-fund_years : goal.apply-requires-clause-fund_years
apply-requires-clause-fund_years c =
    let is : c.self.inside.ready ≡ Some c.in-Some.entry = sym c.take.ensures.value ∙ c.in-Some.is in
    let ready : IsReady c.self.inside c.in-Some.entry = subst (λ (o : Option Entry). IfSome o (IsReady c.self.inside)) is c.self.invariant.ready in
    ready_years Fund c.self.inside.chart c.self.inside.entries.items c.in-Some.entry c.self.inside.accounts.ready_fund
    (ready_is Fund c.self.inside.chart c.self.inside.entries.items c.in-Some.entry c.self.inside.registers.registers _ c.self.invariant.registers ready.posts.fund) c.whole.ensures c.self.invariant.legal ready.adds

pub apply-requires-clause-fund_fits : goal.apply-requires-clause-fund_fits
apply-requires-clause-fund_fits c =
    let is : c.self.inside.ready ≡ Some c.in-Some.entry = sym c.take.ensures.value ∙ c.in-Some.is in
    let ready : IsReady c.self.inside c.in-Some.entry = subst (λ (o : Option Entry). IfSome o (IsReady c.self.inside)) is c.self.invariant.ready in
    ready_fits Fund c.self.inside.chart c.self.inside.entries.items c.in-Some.entry c.self.inside.accounts.fund c.self.inside.accounts.ready_fund c.self.invariant.fund
    (ready_is Fund c.self.inside.chart c.self.inside.entries.items c.in-Some.entry c.self.inside.registers.registers _ c.self.invariant.registers ready.posts.fund) c.whole.ensures c.self.invariant.legal ready.adds

pub apply-requires-clause-gov_years : goal.apply-requires-clause-gov_years
apply-requires-clause-gov_years c =
    let is : c.self.inside.ready ≡ Some c.in-Some.entry = sym c.take.ensures.value ∙ c.in-Some.is in
    let ready : IsReady c.self.inside c.in-Some.entry = subst (λ (o : Option Entry). IfSome o (IsReady c.self.inside)) is c.self.invariant.ready in
    ready_years Gov c.self.inside.chart c.self.inside.entries.items c.in-Some.entry c.self.inside.accounts.ready_gov
    (ready_is Gov c.self.inside.chart c.self.inside.entries.items c.in-Some.entry c.self.inside.registers.registers _ c.self.invariant.registers ready.posts.gov) c.whole.ensures c.self.invariant.legal ready.adds

pub apply-requires-clause-gov_fits : goal.apply-requires-clause-gov_fits
apply-requires-clause-gov_fits c =
    let is : c.self.inside.ready ≡ Some c.in-Some.entry = sym c.take.ensures.value ∙ c.in-Some.is in
    let ready : IsReady c.self.inside c.in-Some.entry = subst (λ (o : Option Entry). IfSome o (IsReady c.self.inside)) is c.self.invariant.ready in
    ready_fits Gov c.self.inside.chart c.self.inside.entries.items c.in-Some.entry c.self.inside.accounts.gov c.self.inside.accounts.ready_gov c.self.invariant.gov
    (ready_is Gov c.self.inside.chart c.self.inside.entries.items c.in-Some.entry c.self.inside.registers.registers _ c.self.invariant.registers ready.posts.gov) c.whole.ensures c.self.invariant.legal ready.adds

pub open_year_after-self-inside-requires : goal.open_year_after-self-inside-requires
open_year_after-self-inside-requires c =
    subst (λ y. y ≤ 2200) (sym c.self.invariant.years) ((years_are c.self.inside.chart c.self.inside.entries.items c.self.invariant.legal).last c.self.invariant.first_year)
