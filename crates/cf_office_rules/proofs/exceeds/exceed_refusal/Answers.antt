use Rattle.std.proofs.Common.{List, ◌∙◌, sym, ap, option_copied}
use Rattle.cf_model.specs.Common.{documents_of, registers_of, entry_with, Move, asks_of_moves}
use Rattle.cf_model.proofs.Common.{exceed_close, unrolled, amend_unrolled, transfer_unrolled, least_excess, exceed_amendment, exceed_transfer, exceed_rest, amended_line, transferred_line}
use Rattle.cf_registers.proofs.Cleared.{cleared}
use Rattle.cf_registers.proofs.Lending.{amended_touched, transferred_touched}
use Rattle.cf_registers.proofs.Moved.{amended_year, transferred_year}
use Rattle.cf_registers.proofs.Options.{none_is}
use Rattle.cf_registers.proofs.Taken.{moves_drawn}
use Rattle.cf_office_rules.proofs.exceeds.exceed_refusal.Goals as goal

pub amendment_refusal-requires-clause-line : goal.amendment_refusal-requires-clause-line
amendment_refusal-requires-clause-line c =
    amended_line c.args.history.now.plan (documents_of c.args.history.now.plan c.args.history.now.entries) c.args.change.now.on c.args.change.now.act c.in-Some.amendment.now (sym c.amendment.ensures ∙ ap option_copied c.in-Some.is) c.requires.names

pub amendment_refusal-requires-clause-year : goal.amendment_refusal-requires-clause-year
amendment_refusal-requires-clause-year c = amended_year c.args.change.now.on c.args.change.now.act c.in-Some.amendment.now (sym c.amendment.ensures ∙ ap option_copied c.in-Some.is) c.requires.form.act

pub amendment_refusal-requires-clause-lent : goal.amendment_refusal-requires-clause-lent
amendment_refusal-requires-clause-lent c =
    c.requires.lent _ (amended_touched c.args.history.now.plan c.args.change.now.act c.in-Some.amendment.now (sym c.amendment.ensures ∙ ap option_copied c.in-Some.is))

pub transfer_refusal-requires-clause-lent : goal.transfer_refusal-requires-clause-lent
transfer_refusal-requires-clause-lent c =
    c.requires.lent _ (transferred_touched c.args.history.now.plan c.args.change.now.act c.in-Some-line_transfer.transfer.now (sym c.line_transfer.ensures ∙ ap option_copied c.in-Some-line_transfer.is)).0

pub returns-in-Some : goal.returns-in-Some
returns-in-Some c =
    let plan = c.args.history.now.plan in
    let h = c.args.history.now.entries in
    let is = sym c.amendment.ensures ∙ ap option_copied c.in-Some.is in
    c.amendment_refusal.ensures
    ∙ sym (exceed_amendment plan h (entry_with (registers_of plan h) c.args.change.now) c.in-Some.amendment.now c.requires.legal (amend_unrolled plan c.args.change.now.act c.in-Some.amendment.now is) c.requires.form.act is
    (amended_line plan (documents_of plan h) c.args.change.now.on c.args.change.now.act c.in-Some.amendment.now is c.requires.names))

pub transfer_refusal-requires-clause-line : goal.transfer_refusal-requires-clause-line
transfer_refusal-requires-clause-line c =
    transferred_line c.args.history.now.plan (documents_of c.args.history.now.plan c.args.history.now.entries) c.args.change.now.on c.args.change.now.act c.in-Some-line_transfer.transfer.now (sym c.line_transfer.ensures ∙ ap option_copied c.in-Some-line_transfer.is) c.requires.names

pub transfer_refusal-requires-clause-year : goal.transfer_refusal-requires-clause-year
transfer_refusal-requires-clause-year c = transferred_year c.args.change.now.on c.args.change.now.act c.in-Some-line_transfer.transfer.now (sym c.line_transfer.ensures ∙ ap option_copied c.in-Some-line_transfer.is) c.requires.form.act

pub returns-in-Some-line_transfer : goal.returns-in-Some-line_transfer
returns-in-Some-line_transfer c =
    let plan = c.args.history.now.plan in
    let h = c.args.history.now.entries in
    let is = sym c.line_transfer.ensures ∙ ap option_copied c.in-Some-line_transfer.is in
    c.transfer_refusal.ensures
    ∙ sym (exceed_transfer plan h (entry_with (registers_of plan h) c.args.change.now) c.in-Some-line_transfer.transfer.now c.requires.legal (transfer_unrolled plan c.args.change.now.act c.in-Some-line_transfer.transfer.now is) c.requires.form.act is
    (transferred_line plan (documents_of plan h) c.args.change.now.on c.args.change.now.act c.in-Some-line_transfer.transfer.now is c.requires.names))

pub moves_refusal-requires-clause-cleared : goal.moves_refusal-requires-clause-cleared
moves_refusal-requires-clause-cleared c =
    cleared c.args.history.now.plan c.args.history.now.entries c.args.change.now.on c.args.change.now.desk c.args.change.now.act
    c.chart-whole.ensures.whole.calendar c.requires.legal c.requires.form.on c.requires.form.act c.requires.documents

pub returns : goal.returns
returns c =
    let plan = c.args.history.now.plan in
    let h = c.args.history.now.entries in
    let act = c.args.change.now.act in
    let none = unrolled plan act (λ p e. c.in_default-act.not-Close p e) in
    let no_amendment = sym c.amendment.ensures ∙ ap option_copied (none_is c.amendment.result c.in_default.not-Some) in
    let no_transfer = sym c.line_transfer.ensures ∙ ap option_copied (none_is c.line_transfer.result c.in_default-line_transfer.not-Some) in
    c.moves_refusal.ensures
    ∙ ap (λ (moves : List Move). least_excess plan h (λ line year. asks_of_moves plan line year moves)) (sym (moves_drawn plan (registers_of plan h) c.args.change.now.on act none))
    ∙ sym (exceed_rest plan h (entry_with (registers_of plan h) c.args.change.now) c.requires.legal none c.requires.form.act no_amendment no_transfer)

pub returns-in-Close : goal.returns-in-Close
returns-in-Close c =
    let plan = c.args.history.now.plan in
    let h = c.args.history.now.entries in
    sym (exceed_close plan h (entry_with (registers_of plan h) c.args.change.now) _ c.requires.legal c.requires.form.act c.in-Close.is)
