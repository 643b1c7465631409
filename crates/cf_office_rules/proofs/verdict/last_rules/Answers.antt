use Rattle.std.proofs.Common.{sym, ◌∙◌}
use Rattle.cf_office_rules.proofs.LastRules.{at_registers, at_room, at_cash, documents_allow}
use Rattle.cf_registers.proofs.Options.{none_is}
use Rattle.cf_office_rules.proofs.verdict.last_rules.Goals as goal

pub returns-in-Some : goal.returns-in-Some
returns-in-Some c =
    at_registers c.args.history.now.plan c.args.history.now.entries c.args.change.now c.in-Some.refusal (sym c.register_refusal.ensures ∙ c.in-Some.is)

pub exceed_refusal-requires-clause-documents : goal.exceed_refusal-requires-clause-documents
exceed_refusal-requires-clause-documents c =
    documents_allow c.args.history.now.plan c.args.history.now.entries c.args.change.now
    (sym c.register_refusal.ensures ∙ none_is c.register_refusal.result c.in_default.not-Some)

pub returns-in-Some-exceed_refusal : goal.returns-in-Some-exceed_refusal
returns-in-Some-exceed_refusal c =
    at_room c.args.history.now.plan c.args.history.now.entries c.args.change.now c.in-Some-exceed_refusal.refusal
    (sym c.register_refusal.ensures ∙ none_is c.register_refusal.result c.in_default.not-Some)
    (sym c.exceed_refusal.ensures ∙ c.in-Some-exceed_refusal.is)

pub returns : goal.returns
returns c =
    c.cash_refusal.ensures
    ∙ at_cash c.args.history.now.plan c.args.history.now.entries c.args.change.now
    (sym c.register_refusal.ensures ∙ none_is c.register_refusal.result c.in_default.not-Some)
    (sym c.exceed_refusal.ensures ∙ none_is c.exceed_refusal.result c.in_default-exceed_refusal.not-Some)
