-- The names that most files cite, passed on from one place. Declares nothing.
pub use Rattle.cf_base.specs.declared.calendar.Day.{Day}
pub use Rattle.cf_base.specs.declared.calendar.Month.{Month}
pub use Rattle.cf_base.specs.declared.statement.Kind.TheVariants.{Budget, Balance, Activities}
pub use Rattle.cf_calls.specs.declared.acts.Act.{Act}
pub use Rattle.cf_calls.specs.declared.acts.Act.TheVariants.{Close, Order, ChangeOrder, CancelOrder, Voucher, VoidVoucher, Collect, WriteOff, Issue, PayDue, Lease, Adopt, Amend, Transfer, Requisition, Receive, Leave, Interfund, Pay, Withdraw}
pub use Rattle.cf_calls.specs.declared.acts.Adoption.{Adoption}
pub use Rattle.cf_calls.specs.declared.acts.Amendment.{Amendment}
pub use Rattle.cf_calls.specs.declared.acts.AssetAct.{AssetAct}
pub use Rattle.cf_calls.specs.declared.acts.AssetAct.TheVariants.{Donate, Dispose}
pub use Rattle.cf_calls.specs.declared.acts.BillAmount.{BillAmount}
pub use Rattle.cf_calls.specs.declared.acts.BondIssue.{BondIssue}
pub use Rattle.cf_calls.specs.declared.acts.DebtPayment.{DebtPayment}
pub use Rattle.cf_calls.specs.declared.acts.Disposal.{Disposal}
pub use Rattle.cf_calls.specs.declared.acts.Donation.{Donation}
pub use Rattle.cf_calls.specs.declared.acts.FundMove.{FundMove}
pub use Rattle.cf_calls.specs.declared.acts.FundMoveKind.{FundMoveKind}
pub use Rattle.cf_calls.specs.declared.acts.LeaveAct.{LeaveAct}
pub use Rattle.cf_calls.specs.declared.acts.LeaveAct.TheVariants.{Earn, Use, Mature}
pub use Rattle.cf_calls.specs.declared.acts.LeaveMaturity.{LeaveMaturity}
pub use Rattle.cf_calls.specs.declared.acts.LineTransfer.{LineTransfer}
pub use Rattle.cf_calls.specs.declared.acts.NewBill.{NewBill}
pub use Rattle.cf_calls.specs.declared.acts.NewLease.{NewLease}
pub use Rattle.cf_calls.specs.declared.acts.NewOrder.{NewOrder}
pub use Rattle.cf_calls.specs.declared.acts.NewRequisition.{NewRequisition}
pub use Rattle.cf_calls.specs.declared.acts.NewVoucher.{NewVoucher}
pub use Rattle.cf_calls.specs.declared.acts.OrderChange.{OrderChange}
pub use Rattle.cf_calls.specs.declared.acts.Payment.{Payment}
pub use Rattle.cf_calls.specs.declared.acts.Period.{Period}
pub use Rattle.cf_calls.specs.declared.acts.Terms.{Terms}
pub use Rattle.cf_calls.specs.declared.call.Call.{Call}
pub use Rattle.cf_calls.specs.declared.call.Change.{Change}
pub use Rattle.cf_calls.specs.declared.call.Look.{Look}
pub use Rattle.cf_calls.specs.declared.entry.Drawn.{Drawn}
pub use Rattle.cf_calls.specs.declared.entry.Entry.{Entry}
pub use Rattle.cf_calls.specs.declared.items.AccountItem.{AccountItem}
pub use Rattle.cf_calls.specs.declared.items.Charge.{Charge}
pub use Rattle.cf_calls.specs.declared.items.Charge.TheVariants.{OnOrder, Direct}
pub use Rattle.cf_calls.specs.declared.items.LineAmount.{LineAmount}
pub use Rattle.cf_calls.specs.declared.items.Liquidation.{Liquidation}
pub use Rattle.cf_calls.specs.declared.items.Liquidation.TheVariants.{Final, Lesser, Recorded}
pub use Rattle.cf_calls.specs.declared.items.SourceAmount.{SourceAmount}
pub use Rattle.cf_calls.specs.declared.items.VoucherItem.{VoucherItem}
pub use Rattle.cf_calls.specs.declared.names.NameKind.{NameKind}
pub use Rattle.cf_calls.specs.declared.read.Basis.{Basis}
pub use Rattle.cf_calls.specs.declared.read.Basis.TheVariants.{Gov}
pub use Rattle.cf_calls.specs.declared.read.Read.{Read}
pub use Rattle.cf_calls.specs.declared.refusal.Refusal.{Refusal}
pub use Rattle.cf_calls.specs.declared.reply.Body.{Body}
pub use Rattle.cf_calls.specs.declared.reply.Body.TheVariants.{Refused, Done}
pub use Rattle.cf_calls.specs.declared.reply.Made.{Made}
pub use Rattle.cf_calls.specs.declared.reply.Posted.{Posted}
pub use Rattle.cf_calls.specs.declared.reply.Reply.{Reply}
pub use Rattle.cf_calls.specs.declared.reply.Row.{Row}
pub use Rattle.cf_calls.specs.declared.reply.Verdict.{Verdict}
pub use Rattle.cf_calls.specs.declared.reply.Verdict.TheVariants.{Accept, Refuse, Repeat}
pub use Rattle.cf_calls.specs.declared.role.Role.{Role}
pub use Rattle.cf_calls.specs.declared.shown.AssetState.{AssetState}
pub use Rattle.cf_calls.specs.declared.shown.ItemState.{ItemState}
pub use Rattle.cf_calls.specs.declared.shown.LineNumbers.{LineNumbers}
pub use Rattle.cf_calls.specs.declared.shown.OrderItemShown.{OrderItemShown}
pub use Rattle.cf_calls.specs.declared.shown.ReconShown.{ReconShown}
pub use Rattle.cf_calls.specs.declared.shown.RequisitionState.{RequisitionState}
pub use Rattle.cf_calls.specs.declared.shown.Shown.{Shown}
pub use Rattle.cf_calls.specs.declared.shown.VoucherState.{VoucherState}
pub use Rattle.cf_chart.specs.declared.fault.ChartFault.{ChartFault}
pub use Rattle.cf_chart.specs.declared.fault.ChartFault.TheVariants.{Bad, TooLong, Twice, Window}
pub use Rattle.cf_chart.specs.declared.fault.ChartRefused.{ChartRefused}
pub use Rattle.cf_chart.specs.declared.fault.ChartRefused.TheVariants.{Fault}
pub use Rattle.cf_chart.specs.declared.fault.KeyName.{KeyName}
pub use Rattle.cf_chart.specs.declared.fault.Place.{Place}
pub use Rattle.cf_chart.specs.declared.fault.TableName.{TableName}
pub use Rattle.cf_chart.specs.declared.rows.BalanceClass.{BalanceClass}
pub use Rattle.cf_chart.specs.declared.rows.BalanceClass.TheVariants.{Restricted, Committed, Assigned}
pub use Rattle.cf_chart.specs.declared.rows.Department.{Department}
pub use Rattle.cf_chart.specs.declared.rows.Function.{Function}
pub use Rattle.cf_chart.specs.declared.rows.FundType.{FundType}
pub use Rattle.cf_chart.specs.declared.rows.FundType.TheVariants.{General, SpecialRevenue, CapitalProjects, DebtService, Permanent}
pub use Rattle.cf_chart.specs.declared.rows.LaterLevel.{LaterLevel}
pub use Rattle.cf_chart.specs.declared.rows.Level.{Level}
pub use Rattle.cf_chart.specs.declared.rows.Line.{Line}
pub use Rattle.cf_chart.specs.declared.rows.LinePart.{LinePart}
pub use Rattle.cf_chart.specs.declared.rows.Object.{Object}
pub use Rattle.cf_chart.specs.declared.rows.RevenueKind.{RevenueKind}
pub use Rattle.cf_chart.specs.declared.rows.RevenueSource.{RevenueSource}
pub use Rattle.cf_chart.specs.declared.words.SourceWord.{SourceWord}
pub use Rattle.cf_model.specs.Assets.{asset_step, assets_by, depreciation, charge, Asset, void, disposed, voucher_of, new_asset, bought, leased_life, leased, owned, is_leased, Stage, Origin, purchase, gift, lease, is_given, counted, depreciated, life_of, net, is_there, is_kept}
pub use Rattle.cf_model.specs.AssetsShown.{asset_shown}
pub use Rattle.cf_model.specs.Bonds.{Due, interest_charge, next_due, dues_from, bond_step, bonds_by, new_bond, Bond, coupon, dues, interest_for, days_by, earned, paid_dues, owed_through, paid_to, accrued_through, issues}
pub use Rattle.cf_model.specs.Calendar.{year_of_day, is_year_closed, is_month_closed, open_year, rolled_year, document_year, is_before, rolls, open_year_after, first_failing, is_year, is_last_month}
pub use Rattle.cf_model.specs.Cash.{cash_short, fund_sum, cash_taken, due_cash, cash_refusal}
pub use Rattle.cf_model.specs.Changes.{deferred_in, outlay, donated, leased_in, depreciated_in, book_value, is_void, is_disposed_in, changes_of, issued_in, principal_in, ChangesAddUp, changes_sum}
pub use Rattle.cf_model.specs.Charted.{is_capital, fund_of, function_of, function_if, is_current, is_principal, is_interest, fund_if}
pub use Rattle.cf_model.specs.DebtShown.{bond_shown, accrued_by, leave_shown, outstanding}
pub use Rattle.cf_model.specs.Deeds.{deeds_of, function_charge, bonds_deeds, collect_deeds, dispose_deed, due_deeds, fund_deed, pay_deed, pay_items, spent_item, write_off_deeds, spent_on, close_deeds}
pub use Rattle.cf_model.specs.DocumentRules.{document_refusal, over_change, withdrawn_state, state_refusal, on_order_refusal, open_refusal, not_live, hand_refusal, voided_state, not_open_voucher, charge_not_on_order, not_on_order, has_account, is_account, paid_state, charge_state, charged_state, not_open_requisition, is_live_of, document_rules, over_recorded, charge_over_open}
pub use Rattle.cf_model.specs.Documents.{draws_voucher, is_number, documents_of, is_drawn, documents_step, draws_order, draws_requisition, Expenditure, no_documents, requisition_at, voucher_at, leaves, hold_of, expenditure_of, paid_after, Documents, Hold, expenditure_step, carried_in, documents_after, carried_after, hold_step}
pub use Rattle.cf_model.specs.DocumentsShown.{requisition_shown, order_shown, voucher_shown, or_zero, shown_line, item_shown}
pub use Rattle.cf_model.specs.Estimates.{estimate_for, estimate, estimated_by, amount_if}
pub use Rattle.cf_model.specs.Items.{fund_balances, net_position, leases, accrued, absences, items, Reconciles, capital, right_to_use, deferred, bonds}
pub use Rattle.cf_model.specs.Laws.{charges_to, interest_to, ChargesAddUp, InterestAddsUp, EarnsByDays, days_run, running_interest, history_after, IsTaken, RepeatsAddNothing}
pub use Rattle.cf_model.specs.Leave.{leave_by, leave_of, LeaveChange, leave_left, leave_through}
pub use Rattle.cf_model.specs.LineNumbers.{encumbered, numbers, held_amount, is_line, is_on, original, appropriated, expended, adopted_by, added_by, removed_by, counts, encumbered_sum, added, carried_sum, removed, room, rise_of, fall_of, amount_for, held_sum, expended_sum, spending_sum, expended_amount, HasRoom}
unfoldable pub use Rattle.cf_model.specs.LineNumbers.{years_end}
pub use Rattle.cf_model.specs.Months.{number_of_day, closed_to, year_at, months_to, start_month, number_of}
pub use Rattle.cf_model.specs.Moves.{Move, document_moves, spending_move, spent_by, asks_of_moves, releases, carried_to, charge_move, order_move, reopen_move, spend_move, unspend_move, release_move, carried_by, moved_sum, moves_of, lapses_of, roll_moves, asked_of, hold_move, item_move, move_if, charged_item, goes_on, open_rise}
pub use Rattle.cf_model.specs.OrderItems.{item_named, liquidated_amount, is_named, charge_items, shifted, items_from, charge_item, item_step, OrderItem, carries_fund, has_line, may_carry, open_of, Liquidated, liquidated_sum, without, is_final, is_live_at, state_at, is_live, state_of, items_by, lapsed, lapses, rolled, going, cancelled, is_finished, Carried, carried_of, nonnegative}
pub use Rattle.cf_model.specs.Postings.{balance_of, act_posts, cash_of, posts_by, rows_of, posts_in, posts_after, BalanceAfter, EachBalances}
pub use Rattle.cf_model.specs.ReceivableRules.{receivable_refusal, over_loan, bill_refusal, over_bill, over_refusal, over_left}
pub use Rattle.cf_model.specs.Receivables.{bill_at, receivables_step, no_receivables, bills_by, settlements_by, loans_by, repayments_by, owed, Receivables, left_of, Settlement, Loan, settled_of, settled_through, levied_through, moved_between, collected_year, window_if, collected_of, unavailable}
pub use Rattle.cf_model.specs.ReceivablesShown.{bill_shown}
pub use Rattle.cf_model.specs.Recognition.{year_in, revenue_year}
pub use Rattle.cf_model.specs.ReconShown.{recon_shown, recon_between}
pub use Rattle.cf_model.specs.RegisterRules.{asset_refusal, asset_at, debt_refusal, leave_refusal, order_refusal, unpaid_refusal, due_day, month_at, register_name_refusal, later_levy, voided_asset, unpaid, levy_refusal, disposed_asset, not_held, not_due, paid_off, paid_refusal, same_month, payment_refusal, due_refusal, debt_rules, payment_year, unknown_bond, unknown_payment, unknown_dept, unknown_fund, is_gone, over_leave, due_year, unknown_asset, unadopted_due}
pub use Rattle.cf_model.specs.Registers.{Registers, closed_after, registers_of, registers_step, no_registers, registers_after}
pub use Rattle.cf_model.specs.Report.{report_rows, sums_of, recon_rows, fund_balance}
pub use Rattle.cf_model.specs.Results.{bond_at, payment_number, made_of, document_number, document_draws, bill_draws, made_by, results_of, draws, made_paid, made_payment, made_at, entry_with, payment_if, results_after, made_year}
pub use Rattle.cf_model.specs.Rules.{amount_refusal, first_refusal, adopted_at, name_refusal, refuse_if, first_of, place_from, closed_year, or_else, amount, bad_amount, account_name, is_spending, requisition_names, unknown, unknown_if, Amount, amount_or_none, full_refusal, period_refusal, year_refusal, closing_refusal, closed_refusal, adopted_refusal, unadopted_refusal, window_refusal, first_below, line_name, fund_name, is_line_of, asked, direct_funds, funds_if_direct, voucher_names, item_names, charge_names, unknown_account, ahead_refusal, desk_refusal, exceeds_at, any_source_name, window_month, item_years, posted_years, voucher_years, is_source_of, source_name, adopted_where, unadopted_where, Name}
unfoldable pub use Rattle.cf_model.specs.Rules.{exceed_refusal}
pub use Rattle.cf_model.specs.Spendings.{spendings_by, bonds_spendings, Spending, spendings_in, due_spendings, spendings_after}
pub use Rattle.cf_model.specs.State.{OfficeState, IsSoundState, blank_plan}
pub use Rattle.cf_model.specs.Step.{IsLegal, Adds, known_at, is_same, entry_at, next_of, verdict_of, body_of, line_shown, IsLegalAfter, next_by, change_body, verdict_after, verdict_new, verdict_by, first_rules, later_rules, or_refused, shown_of, last_rules, call_rules, period_rules, is_there_in, unless_refused}
pub use Rattle.cf_model.specs.Stripes.{entry_touches, call_touches, stripe_of, touches, read_touches, is_item_in, is_line_in, is_in}
pub use Rattle.cf_model.specs.Sums.{int_sum, through}
pub use Rattle.cf_model.specs.Worked.{entry, on, spends, town, moved, SpendsToTheCent, TellsRoom, LiquidatesOrders, RollsOrders, RecognisesCollections, DepreciatesByMonths, EarnsInterest, KeepsLeave, JoinsBothBases, TellsRepeats, RefusesInOrder, ClosesInOrder, PaysFromCash}
