use Rattle.std.proofs.Common.{◌<◌, ◌^◌, ℕ, List, ℤ, pos, [], length, ap, sym, subst, refl, ◌∙◌, lit<, All}
use Rattle.cf_base.proofs.Common.{length-replicate}
use Rattle.cf_ledger.specs.declared.post.Post.{Post}
use Rattle.cf_ledger.specs.Places.{Rows, AreCounted, cells_at}
use Rattle.cf_ledger.specs.Posts.{sizes, is_of, is_in_total, IsInYears}
use Rattle.cf_ledger.specs.Years.{no_cells, StandsFor}
use Rattle.cf_ledger.proofs.PlaceRows.{zero_at}
use Rattle.cf_ledger.proofs.Stands.{no_years, no_rows_counted}
use Rattle.cf_ledger.proofs.book.Book.new.Goals as goal

pub invariant_of-result : goal.invariant_of-result
invariant_of-result c =
    let none = sym c.new-2.ensures in
    let zeros = sym c.no_cells.ensures in
    let rows = sym c.new.ensures.empty in
    let totals : StandsFor is_in_total [] no_cells = zero_at 231 in
    let stands : (f a : ℕ) → StandsFor (is_of f a) [] (cells_at [] f a) = λ f a k. refl in
    record {
      years = subst (λ (posts : List Post). All IsInYears posts) none no_years;
      small = subst (λ (posts : List Post). sizes posts < 2 ^ 127) none (lit< tt);
      count = ap length c.no_cells.ensures ∙ length-replicate 231 (pos 0);
      totals = subst (λ (posts : List Post). StandsFor is_in_total posts c.no_cells.result) none (subst (λ (cells : List ℤ). StandsFor is_in_total [] cells) zeros totals);
      counted = subst (λ (r : Rows). AreCounted r) rows no_rows_counted;
      rows = subst (λ (posts : List Post). (f a : ℕ) → StandsFor (is_of f a) posts (cells_at c.new.result.entries f a)) none (subst (λ (r : Rows). (f a : ℕ) → StandsFor (is_of f a) [] (cells_at r f a)) rows stands);
    }
