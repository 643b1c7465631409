-- The names that most files cite, passed on from one place. Declares nothing.
pub use Rattle.cf_calls.specs.Acts.{voucher_items, adoption_of, order_items, requisition_items, role_of, schedule_of, term_of, closes_month, closes_year, is_back, adopts, amendment_of, transfer_of}
pub use Rattle.cf_calls.specs.Charges.{charged_item, same_charged}
pub use Rattle.cf_calls.specs.Form.{IsEntryInForm, IsCallInForm, IsChangeInForm, IsActInForm, IsYear, IsLeaseForm, is_distinct, same_line, same_source, same_number, same_order_item, IsAdoptionForm, is_period, month_number, is_key, is_key_byte, IsPeriodForm, IsCallMonth, IsTermsForm, is_liquidation_form, is_charge_form, IsReadInForm, is_by, IsVoucherForm, IsCount, is_most, IsWithinLimits, HasDrawn, IsDrawn, IsPaymentNumber, same_charge}
pub use Rattle.cf_calls.specs.Kinds.{kind_of, draws_of, kind_code, kind_named, word_of, kinds}
unfoldable pub use Rattle.cf_calls.specs.Kinds.{kind_value}
pub use Rattle.cf_calls.specs.Refusals.{overspends, name_of, refusal_names, number_of, exceeds}
pub use Rattle.cf_calls.specs.Roles.{is_role}
pub use Rattle.cf_calls.specs.Same.{same_call, is_line_amount, is_source_amount, is_account_item, is_liquidation, is_charge, is_voucher_item, same_option, same_flag, same_adoption, same_amendment, same_transfer, same_order, same_order_change, same_voucher, same_bill, same_bill_amount, same_asset_act, same_terms, same_issue, same_debt_payment, same_leave_amount, same_leave_act, same_move_kind, same_fund_move, same_period, same_lease, same_act, same_day}
