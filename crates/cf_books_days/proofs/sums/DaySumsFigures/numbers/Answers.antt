use Rattle.std.proofs.Common.{◌≡◌, ◌∙◌, ap, sym, rules}
use Rattle.cf_base.proofs.Common.{int_wrap_fits, to_z-of_z}
use mir.Val.{SFits}
use mir.Syntax.{w128}
use Rattle.cf_budget.specs.declared.row.Row.{Row}
use Rattle.cf_books_days.specs.Through.{held_row, moved_in, seen_through}
use Rattle.cf_books_days.proofs.LineSums.{room_same}
use Rattle.cf_books_days.proofs.sums.DaySumsFigures.numbers.Goals as goal

pub returns : goal.returns
returns c =
    let s = c.args.self.now in
    let r : Row = c.row-row.result in
    let m : Row = moved_in s.rest.now.plan c.args.line c.args.year (seen_through s.rest.now.plan s.day s.rest.now.entries) in
    let is : held_row r ≡ held_row m = ap held_row c.row-row.ensures ∙ s.numbers c.args.line c.args.year in
    let original : SFits w128 r.original = search rules in
    let appropriated : SFits w128 r.appropriated = search rules in
    let held : SFits w128 r.held = search rules in
    let encumbered : SFits w128 r.encumbered = search rules in
    let expended : SFits w128 r.expended = search rules in
    let room : SFits w128 c.room.result = search rules in
    λ i. record {
      original = (to_z-of_z w128 r.original original ∙ sym (int_wrap_fits w128 r.original original) ∙ ap (λ (x : Row). x.original) is) i;
      appropriated = (to_z-of_z w128 r.appropriated appropriated ∙ sym (int_wrap_fits w128 r.appropriated appropriated) ∙ ap (λ (x : Row). x.appropriated) is) i;
      held = (to_z-of_z w128 r.held held ∙ sym (int_wrap_fits w128 r.held held) ∙ ap (λ (x : Row). x.held) is) i;
      encumbered = (to_z-of_z w128 r.encumbered encumbered ∙ sym (int_wrap_fits w128 r.encumbered encumbered) ∙ ap (λ (x : Row). x.encumbered) is) i;
      expended = (to_z-of_z w128 r.expended expended ∙ sym (int_wrap_fits w128 r.expended expended) ∙ ap (λ (x : Row). x.expended) is) i;
      room = (to_z-of_z w128 c.room.result room ∙ c.room.ensures ∙ room_same r m is) i;
    }
