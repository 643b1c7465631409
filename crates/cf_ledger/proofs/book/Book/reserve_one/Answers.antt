use Rattle.std.proofs.Common.{◌≡◌, true, ◌∙◌, sym, ap, subst}
use Rattle.cf_ledger.specs.declared.places.Place.{Place}
use Rattle.cf_ledger.specs.Places.{Rows, has_row}
use Rattle.cf_ledger.specs.Books.{Posted, has_place}
use Rattle.cf_ledger.proofs.Stands.{has_key, keeps_keys, stands_same, on_ok}
use Rattle.cf_ledger.proofs.book.Book.reserve_one.Goals as goal

pub invariant_of-self : goal.invariant_of-self
invariant_of-self c =
    let i = c.self.invariant in
    record {
      years = i.years;
      small = i.small;
      count = i.count;
      totals = i.totals;
      counted = c.reserve_at.ensures.counted;
      rows = stands_same c.self.inside.rows.entries c.reserve_at.new.rows.entries c.reserve_at.ensures.same c.self.inside.history.items i.rows;
    }

pub returns-clause-reserved : goal.returns-clause-reserved
returns-clause-reserved c =
    let post = c.args.post.now in
    let rows : Rows = c.reserve_at.new.rows.entries in
    on_ok c.reserve_at.result (λ has. sym (has_key rows post.fund post.account) ∙ ap (λ (q : Place). has_row rows q.fund q.account) (sym c.place.ensures) ∙ has) c.reserve_at.ensures.has

pub returns-clause-keeps : goal.returns-clause-keeps
returns-clause-keeps c fund account has =
    keeps_keys c.self.inside.rows.entries c.reserve_at.new.rows.entries c.reserve_at.ensures.keeps fund account
    (subst (λ (b : Posted). has_place b fund account ≡ true) (sym c.self.view_is) has)
