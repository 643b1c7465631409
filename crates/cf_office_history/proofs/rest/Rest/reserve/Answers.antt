use Rattle.std.proofs.Common.{◌∙◌, ◌≡◌, ap, subst, sym, All}
use Rattle.cf_model.specs.Common.{deeds_of, Registers, Adds}
use Rattle.cf_model.proofs.Common.{postable}
use Rattle.cf_registers.specs.Numbered.{AreNumbered}
use Rattle.cf_registers.proofs.Taken.{numbered}
use Rattle.cf_post.specs.Sizes.{IsPostable}
use Rattle.cf_office_history.specs.Keys.{place_of}
use Rattle.cf_office_history.proofs.rest.Rest.reserve.Goals as goal

pub invariant_of-self-2 : goal.invariant_of-self-2
invariant_of-self-2 c =
    let same : c.reserve_entry.new.entries.items ≡ c.self.inside.entries.items = c.reserve_entry.ensures.entries in
    let adds : Adds c.self.inside.chart c.self.inside.entries.items c.args.entry = rw (← c.self.view_is) at c.requires in
    record {
      legal = rw same c.self.invariant.legal;
      few = rw same c.self.invariant.few;
      known = λ d q. rw same (ap place_of (c.reserve_places.ensures.same_keys d q) ∙ c.self.invariant.known d q);
      adopted = λ f y. rw same (ap place_of (c.reserve_places.ensures.same_budgets f y) ∙ c.self.invariant.adopted f y);
      results = rw same (c.reserve_entry.ensures.results ∙ c.self.invariant.results);
      registers = rw same (c.reserve_books.ensures.registers ∙ c.self.invariant.registers);
      taken = rw same (c.reserve_books.ensures.taken _ c.self.invariant.taken);
      first_year = c.self.invariant.first_year;
      years = rw same c.self.invariant.years;
      fund = rw same (c.reserve_books.ensures.fund ∙ c.self.invariant.fund);
      gov = rw same (c.reserve_books.ensures.gov ∙ c.self.invariant.gov);
      ready = record {
        adds = rw same adds;
        key = c.in_ok-reserve_places.ensures.key;
        budget = c.in_ok-reserve_places.ensures.budget;
        registers = c.in_ok-reserve_books.ensures.room;
        posts = c.in_ok-reserve_books.ensures.ready;
        place = c.in_ok-reserve_entry.ensures.place;
        result = c.in_ok-reserve_entry.ensures.result;
      };
    }

pub reserve_books-requires-clause-numbered : goal.reserve_books-requires-clause-numbered
reserve_books-requires-clause-numbered c =
    subst AreNumbered (sym c.self.invariant.registers) (numbered c.self.inside.chart c.self.inside.entries.items c.self.invariant.legal)

pub reserve_books-requires-clause-postable : goal.reserve_books-requires-clause-postable
reserve_books-requires-clause-postable c =
    subst (λ (s : Registers). All IsPostable (deeds_of c.self.inside.chart s c.args.entry.change.on c.args.entry.change.act)) (sym c.self.invariant.registers)
    (postable c.self.inside.chart c.self.inside.entries.items c.args.entry.change.on c.args.entry.change.act c.self.invariant.legal c.self.invariant.few)

pub invariant_of-self-in_err-reserve_books : goal.invariant_of-self-in_err-reserve_books
invariant_of-self-in_err-reserve_books c =
    record {
      legal = c.self.invariant.legal;
      few = c.self.invariant.few;
      known = λ d q. ap place_of (c.reserve_places.ensures.same_keys d q) ∙ c.self.invariant.known d q;
      adopted = λ f y. ap place_of (c.reserve_places.ensures.same_budgets f y) ∙ c.self.invariant.adopted f y;
      results = c.self.invariant.results;
      registers = c.reserve_books.ensures.registers ∙ c.self.invariant.registers;
      taken = c.reserve_books.ensures.taken _ c.self.invariant.taken;
      first_year = c.self.invariant.first_year;
      years = c.self.invariant.years;
      fund = c.reserve_books.ensures.fund ∙ c.self.invariant.fund;
      gov = c.reserve_books.ensures.gov ∙ c.self.invariant.gov;
      ready = tt;
    }

pub invariant_of-self-in_err-reserve_entry : goal.invariant_of-self-in_err-reserve_entry
invariant_of-self-in_err-reserve_entry c =
    let same : c.reserve_entry.new.entries.items ≡ c.self.inside.entries.items = c.reserve_entry.ensures.entries in
    record {
      legal = rw same c.self.invariant.legal;
      few = rw same c.self.invariant.few;
      known = λ d q. rw same (ap place_of (c.reserve_places.ensures.same_keys d q) ∙ c.self.invariant.known d q);
      adopted = λ f y. rw same (ap place_of (c.reserve_places.ensures.same_budgets f y) ∙ c.self.invariant.adopted f y);
      results = rw same (c.reserve_entry.ensures.results ∙ c.self.invariant.results);
      registers = rw same (c.reserve_books.ensures.registers ∙ c.self.invariant.registers);
      taken = rw same (c.reserve_books.ensures.taken _ c.self.invariant.taken);
      first_year = c.self.invariant.first_year;
      years = rw same c.self.invariant.years;
      fund = rw same (c.reserve_books.ensures.fund ∙ c.self.invariant.fund);
      gov = rw same (c.reserve_books.ensures.gov ∙ c.self.invariant.gov);
      ready = tt;
    }
