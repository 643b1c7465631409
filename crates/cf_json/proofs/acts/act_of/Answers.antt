use Rattle.cf_json.proofs.acts.act_of.Goals as goal

pub returns-in-Adopt-clause-form : goal.returns-in-Adopt-clause-form
returns-in-Adopt-clause-form c = c.adoption.ensures.form c.args.on

pub returns-in-Amend-clause-form : goal.returns-in-Amend-clause-form
returns-in-Amend-clause-form c = c.amendment.ensures.form c.args.on

pub returns-in-Transfer-clause-form : goal.returns-in-Transfer-clause-form
returns-in-Transfer-clause-form c = c.transfer.ensures.form c.args.on

pub returns-in-Requisition-clause-form : goal.returns-in-Requisition-clause-form
returns-in-Requisition-clause-form c = c.new_requisition.ensures.form c.args.on

pub returns-in-Order-clause-form : goal.returns-in-Order-clause-form
returns-in-Order-clause-form c = c.new_order.ensures.form c.args.on

pub returns-in-ChangeOrder-clause-form : goal.returns-in-ChangeOrder-clause-form
returns-in-ChangeOrder-clause-form c = c.order_change.ensures.form c.args.on

pub returns-in-Voucher-clause-form : goal.returns-in-Voucher-clause-form
returns-in-Voucher-clause-form c = c.new_voucher.ensures.form c.args.on

pub returns-in-Pay-clause-form : goal.returns-in-Pay-clause-form
returns-in-Pay-clause-form c = c.payment.ensures.form c.args.on

pub returns-in-Bill-clause-form : goal.returns-in-Bill-clause-form
returns-in-Bill-clause-form c = c.new_bill.ensures.form c.args.on

pub returns-in-Receive-clause-form : goal.returns-in-Receive-clause-form
returns-in-Receive-clause-form c = c.receipt.ensures.form c.args.on

pub returns-in-Asset-clause-form : goal.returns-in-Asset-clause-form
returns-in-Asset-clause-form c = c.asset_act.ensures.form c.args.on

pub returns-in-PayDue-clause-form : goal.returns-in-PayDue-clause-form
returns-in-PayDue-clause-form c = c.debt_payment.ensures.form c.args.on

pub returns-in-Leave-clause-form : goal.returns-in-Leave-clause-form
returns-in-Leave-clause-form c = c.leave_act.ensures.form c.args.on

pub returns-in-Interfund-clause-form : goal.returns-in-Interfund-clause-form
returns-in-Interfund-clause-form c = c.fund_move.ensures.form c.args.on

pub returns-in-Close-clause-form : goal.returns-in-Close-clause-form
returns-in-Close-clause-form c = c.period.ensures.form c.args.on
