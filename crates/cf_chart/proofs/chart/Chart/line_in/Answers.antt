use Rattle.std.proofs.Common.{◌≡◌, true, sym, ap, subst, ◌∙◌, refl, List}
use Rattle.cf_base.proofs.Common.{list_all}
use Rattle.cf_calls.specs.Common.{is_distinct}
use Rattle.cf_chart.specs.declared.rows.Line.{Line}
use Rattle.cf_chart.specs.Common.{is_leveled, same_keys, object_at, line_at}
use Rattle.cf_chart.proofs.Accounts.{only_line}
use Rattle.cf_chart.proofs.chart.Chart.line_in.Goals as goal

pub returns-in-None-clause-alone : goal.returns-in-None-clause-alone
returns-in-None-clause-alone c = λ n h.
    let leveled = subst (λ (ls : List Line). list_all (is_leveled c.self.inside.funds) ls ≡ true) (ap (λ p. p.lines) c.self.view_is) c.self.invariant.leveled in
    let apart = subst (λ (ls : List Line). is_distinct same_keys ls ≡ true) (ap (λ p. p.lines) c.self.view_is) c.self.invariant.apart in
    sym c.in-None.is ∙ c.number_of.ensures ∙ only_line c.self.inside.funds c.args.fund c.args.dept c.args.later (object_at c.args.self.now c.args.object) c.args.self.now.lines n (line_at c.args.self.now n) leveled apart refl h

pub returns-in-Some-clause-alone : goal.returns-in-Some-clause-alone
returns-in-Some-clause-alone c = λ n h.
    let leveled = subst (λ (ls : List Line). list_all (is_leveled c.self.inside.funds) ls ≡ true) (ap (λ p. p.lines) c.self.view_is) c.self.invariant.leveled in
    let apart = subst (λ (ls : List Line). is_distinct same_keys ls ≡ true) (ap (λ p. p.lines) c.self.view_is) c.self.invariant.apart in
    sym c.in-Some.is ∙ c.number_of.ensures ∙ only_line c.self.inside.funds c.args.fund c.args.dept c.args.later (object_at c.args.self.now c.args.object) c.args.self.now.lines n (line_at c.args.self.now n) leveled apart refl h
