use Rattle.std.proofs.Common.{rules, to_z, of_z, ◌≡◌, ◌<◌, ◌^◌, ◌++◌, ◌∷◌, [], true, ℕ, length, List, ℤ, sym, ap, subst, ◌∙◌, All}
use Rattle.cf_base.proofs.Common.{to_z-of_z, All-push}
use mir.Val.{SFits}
use mir.Syntax.{w128}
use Rattle.cf_ledger.specs.declared.places.Place.{Place}
use Rattle.cf_ledger.specs.declared.post.Post.{Post}
use Rattle.cf_ledger.specs.Books.{Posted, has_place}
use Rattle.cf_ledger.specs.Places.{Rows, has_row, cells_at, PutsCells}
use Rattle.cf_ledger.specs.Posts.{sizes, is_of, is_in_total, IsInYears}
use Rattle.cf_ledger.specs.Years.{raised, CanRaise, StandsFor}
use Rattle.cf_ledger.proofs.Sums.{part}
use Rattle.cf_ledger.proofs.Stands.{has_key, keeps_keys, same_keeps, can_raise, can_raise_row, rows_push, stands_push, counted_puts, raised_count}
use Rattle.cf_ledger.proofs.book.Book.add_one.Goals as goal

pub raise_at-requires-clause-reserved : goal.raise_at-requires-clause-reserved
raise_at-requires-clause-reserved c =
    let post : Post = c.args.post.now in
    let rows : Rows = c.self.inside.rows.entries in
    ap (λ (q : Place). has_row rows q.fund q.account) c.place.ensures ∙ has_key rows post.fund post.account
    ∙ subst (λ (b : Posted). has_place b post.fund post.account ≡ true) (sym c.self.view_is) c.requires.reserved

pub raise_at-requires-clause-fits : goal.raise_at-requires-clause-fits
raise_at-requires-clause-fits c =
    let post : Post = c.args.post.now in
    let rows : Rows = c.self.inside.rows.entries in
    let fits : SFits w128 post.amount = search rules in
    let has : has_row rows post.fund post.account ≡ true =
    has_key rows post.fund post.account ∙ subst (λ (b : Posted). has_place b post.fund post.account ≡ true) (sym c.self.view_is) c.requires.reserved in
    let small : sizes (c.self.inside.history.items ++ post ∷ []) < 2 ^ 127 = subst (λ (b : Posted). sizes (b.posts ++ post ∷ []) < 2 ^ 127) (sym c.self.view_is) c.requires.small in
    subst (λ (q : Place). CanRaise (cells_at rows q.fund q.account) post.year (to_z w128 (of_z w128 post.amount))) (sym c.place.ensures)
    (subst (λ (a : ℤ). CanRaise (cells_at rows post.fund post.account) post.year a) (sym (to_z-of_z w128 post.amount fits))
    (can_raise_row c.self.inside.history.items post (cells_at rows post.fund post.account) (c.self.invariant.rows post.fund post.account) (c.self.invariant.counted post.fund post.account has) c.requires.years small))

pub raise-requires : goal.raise-requires
raise-requires c =
    let post : Post = c.args.post.now in
    let fits : SFits w128 c.in_total.result = search rules in
    let small : sizes (c.self.inside.history.items ++ post ∷ []) < 2 ^ 127 = subst (λ (b : Posted). sizes (b.posts ++ post ∷ []) < 2 ^ 127) (sym c.self.view_is) c.requires.small in
    subst (λ (a : ℤ). CanRaise c.self.inside.totals post.year a) (sym (to_z-of_z w128 c.in_total.result fits ∙ c.in_total.ensures))
    (can_raise is_in_total c.self.inside.history.items post c.self.inside.totals c.self.invariant.totals c.self.invariant.count c.requires.years small)

pub invariant_of-self : goal.invariant_of-self
invariant_of-self c =
    let post : Post = c.args.post.now in
    let i = c.self.invariant in
    let posts : List Post = c.self.inside.history.items in
    let old : Rows = c.self.inside.rows.entries in
    let new : Rows = c.raise_at.new.rows.entries in
    let has : has_row old post.fund post.account ≡ true =
    has_key old post.fund post.account ∙ subst (λ (b : Posted). has_place b post.fund post.account ≡ true) (sym c.self.view_is) c.requires.reserved in
    let count : length (cells_at old post.fund post.account) ≡ 231 = i.counted post.fund post.account has in
    let small : sizes (posts ++ post ∷ []) < 2 ^ 127 = subst (λ (b : Posted). sizes (b.posts ++ post ∷ []) < 2 ^ 127) (sym c.self.view_is) c.requires.small in
    let of_post : SFits w128 post.amount = search rules in
    let of_total : SFits w128 c.in_total.result = search rules in
    let added = sym c.and-self-inside.ensures in
    let total : raised c.self.inside.totals post.year (part is_in_total post) ≡ c.raise.new.cells =
    sym (c.raise.ensures ∙ ap (λ (a : ℤ). raised c.self.inside.totals post.year a) (to_z-of_z w128 c.in_total.result of_total ∙ c.in_total.ensures)) in
    let puts : PutsCells old new post.fund post.account (raised (cells_at old post.fund post.account) post.year post.amount) =
    subst (λ (a : ℤ). PutsCells old new post.fund post.account (raised (cells_at old post.fund post.account) post.year a)) (to_z-of_z w128 post.amount of_post)
    (subst (λ (q : Place). PutsCells old new q.fund q.account (raised (cells_at old q.fund q.account) post.year (to_z w128 (of_z w128 post.amount)))) c.place.ensures c.raise_at.ensures.cells) in
    record {
      years = subst (λ (xs : List Post). All IsInYears xs) added (All-push IsInYears posts post i.years c.requires.years);
      small = subst (λ (xs : List Post). sizes xs < 2 ^ 127) added small;
      count = c.raise.auto.cells ∙ i.count;
      totals = subst (λ (xs : List Post). StandsFor is_in_total xs c.raise.new.cells) added
          (subst (λ (cells : List ℤ). StandsFor is_in_total (posts ++ post ∷ []) cells) total (stands_push is_in_total posts post c.self.inside.totals i.totals i.count c.requires.years));
      counted = counted_puts old new post.fund post.account (raised (cells_at old post.fund post.account) post.year post.amount) puts
          (raised_count (cells_at old post.fund post.account) post.year post.amount count) c.raise_at.ensures.same i.counted;
      rows = subst (λ (xs : List Post). (f a : ℕ) → StandsFor (is_of f a) xs (cells_at new f a)) added (rows_push posts post old new i.rows count c.requires.years puts);
    }

pub returns-clause-keeps : goal.returns-clause-keeps
returns-clause-keeps c fund account has =
    keeps_keys c.self.inside.rows.entries c.raise_at.new.rows.entries (same_keeps c.self.inside.rows.entries c.raise_at.new.rows.entries c.raise_at.ensures.same) fund account
    (subst (λ (b : Posted). has_place b fund account ≡ true) (sym c.self.view_is) has)
