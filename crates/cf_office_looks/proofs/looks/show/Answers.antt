use Rattle.std.proofs.Common.{◌≡◌, ◌∙◌, sym, ap}
use Rattle.cf_base.proofs.Common.{IfOk-weaker}
use Rattle.cf_calls.specs.declared.names.NameKind.TheVariants as kind
use Rattle.cf_model.specs.Common.{Read, Body, Documents, requisition_shown, order_shown, voucher_shown, registers_of, or_refused, shown_of}
use Rattle.cf_model.proofs.Common.{documents_are}
use Rattle.cf_registers.specs.RegistersState.{register_shown}
use Rattle.cf_office_looks.proofs.looks.show.Goals as goal

pub returns-in-Line : goal.returns-in-Line
returns-in-Line c =
    c.show_line.ensures ∙ ap (shown_of c.args.history.now.plan c.args.history.now.entries) (sym c.in-Line.is)

pub returns-in-Requisition : goal.returns-in-Requisition
returns-in-Requisition c =
    let plan = c.args.history.now.plan in
    let entries = c.args.history.now.entries in
    let n = c.in-Requisition.requisition in
    let same = ap (λ (r : Read). or_refused kind.Requisition n (register_shown plan (registers_of plan entries) r)) c.in-Requisition.is
    ∙ ap (λ (d : Documents). or_refused kind.Requisition n (requisition_shown plan n d.holds)) (documents_are plan entries)
    ∙ ap (shown_of plan entries) (sym c.in-Requisition.is) in
    IfOk-weaker _ _ (λ (b : Body). b ≡ shown_of plan entries c.args.read.now) (λ b is. is ∙ same) c.show_numbered.ensures

pub returns-in-Order : goal.returns-in-Order
returns-in-Order c =
    let plan = c.args.history.now.plan in
    let entries = c.args.history.now.entries in
    let n = c.in-Order.order in
    let same = ap (λ (r : Read). or_refused kind.Order n (register_shown plan (registers_of plan entries) r)) c.in-Order.is
    ∙ ap (λ (d : Documents). or_refused kind.Order n (order_shown plan n d.items)) (documents_are plan entries)
    ∙ ap (shown_of plan entries) (sym c.in-Order.is) in
    IfOk-weaker _ _ (λ (b : Body). b ≡ shown_of plan entries c.args.read.now) (λ b is. is ∙ same) c.show_numbered-in-Order.ensures

pub returns-in-Voucher : goal.returns-in-Voucher
returns-in-Voucher c =
    let plan = c.args.history.now.plan in
    let entries = c.args.history.now.entries in
    let n = c.in-Voucher.voucher in
    let same = ap (λ (r : Read). or_refused kind.Voucher n (register_shown plan (registers_of plan entries) r)) c.in-Voucher.is
    ∙ ap (λ (d : Documents). or_refused kind.Voucher n (voucher_shown n d.expenditures)) (documents_are plan entries)
    ∙ ap (shown_of plan entries) (sym c.in-Voucher.is) in
    IfOk-weaker _ _ (λ (b : Body). b ≡ shown_of plan entries c.args.read.now) (λ b is. is ∙ same) c.show_numbered-in-Voucher.ensures
