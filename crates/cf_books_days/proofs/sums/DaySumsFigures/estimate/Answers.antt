use Rattle.std.proofs.Common.{◌<◌, ◌^◌, ◌∙◌, ap, sym, subst, map, List, rules, arith}
use Rattle.cf_model.specs.Common.{Entry, estimate}
use Rattle.cf_books_days.proofs.Adopted.{estimate_part, estimates_are}
use Rattle.cf_books_days.proofs.sums.DaySumsFigures.estimate.Goals as goal

pub estimate_of-requires : goal.estimate_of-requires
estimate_of-requires c =
    let s = c.args.self.now in
    let is = ap (map (λ e. e.now)) c.as_slice.ensures.value ∙ s.adopted in
    let small : c.estimate-all.result < 2 ^ 64 = search rules in
    subst (λ (es : List Entry). estimate c.args.source c.args.year es < 2 ^ 64) (sym is)
    (omega (arith, small, c.estimate-all.ensures, estimate_part s.day c.args.source c.args.year s.rest.now.entries))

pub returns : goal.returns
returns c =
    let s = c.args.self.now in
    let is = ap (map (λ e. e.now)) c.as_slice.ensures.value ∙ s.adopted in
    c.estimate_of.ensures ∙ ap (estimate c.args.source c.args.year) is ∙ estimates_are s.rest.now.plan s.day c.args.source c.args.year s.rest.now.entries
