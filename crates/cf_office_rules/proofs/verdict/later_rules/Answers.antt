use Rattle.std.proofs.Common.{◌∙◌, sym}
use Rattle.cf_model.specs.Common.{call_rules, period_rules, last_rules}
use Rattle.cf_model.proofs.Common.{first_of_none}
use Rattle.cf_registers.proofs.Options.{none_is}
use Rattle.cf_office_rules.proofs.Verdicts.{at_first, at_second, at_last}
use Rattle.cf_office_rules.proofs.verdict.later_rules.Goals as goal

pub returns-in-Some : goal.returns-in-Some
returns-in-Some c =
    let plan = c.args.history.now.plan in
    let h = c.args.history.now.entries in
    at_first (call_rules plan h c.args.change.now) (period_rules plan h c.args.change.now) (last_rules plan h c.args.change.now) c.in-Some.refusal
    (sym c.call_rules.ensures.first ∙ c.in-Some.is)

pub returns-in-Some-period_rules : goal.returns-in-Some-period_rules
returns-in-Some-period_rules c =
    let plan = c.args.history.now.plan in
    let h = c.args.history.now.entries in
    at_second (call_rules plan h c.args.change.now) (period_rules plan h c.args.change.now) (last_rules plan h c.args.change.now) c.in-Some-period_rules.refusal
    (sym c.call_rules.ensures.first ∙ none_is c.call_rules.result c.in_default.not-Some)
    (sym c.period_rules.ensures ∙ c.in-Some-period_rules.is)

pub returns : goal.returns
returns c =
    let plan = c.args.history.now.plan in
    let h = c.args.history.now.entries in
    c.last_rules.ensures
    ∙ at_last (call_rules plan h c.args.change.now) (period_rules plan h c.args.change.now) (last_rules plan h c.args.change.now)
    (sym c.call_rules.ensures.first ∙ none_is c.call_rules.result c.in_default.not-Some)
    (sym c.period_rules.ensures ∙ none_is c.period_rules.result c.in_default-period_rules.not-Some)

pub last_rules-requires-clause-register_names : goal.last_rules-requires-clause-register_names
last_rules-requires-clause-register_names c =
    let rules = call_rules c.args.history.now.plan c.args.history.now.entries c.args.change.now in
    (first_of_none rules (sym c.call_rules.ensures.first ∙ none_is c.call_rules.result c.in_default.not-Some)).1.1.1.1.0
