-- The names that most files cite, passed on from one place. Declares nothing.
pub use Rattle.cf_model.proofs.Accepted.{accepted_fits, accepted, IsUnbroken}
pub use Rattle.cf_model.proofs.Allowed.{FindsBill, IsEarly}
pub use Rattle.cf_model.proofs.Asked.{least_excess, exceed_amendment, exceed_transfer, exceed_rest, amended_line, transferred_line}
pub use Rattle.cf_model.proofs.AssetNumbers.{assets_named}
pub use Rattle.cf_model.proofs.Balanced.{each_entry_balances, each_balances}
pub use Rattle.cf_model.proofs.BondNumbers.{bonds_named}
pub use Rattle.cf_model.proofs.Bounds.{all_sound, small, readable}
pub use Rattle.cf_model.proofs.CarriedBounds.{carried_small}
pub use Rattle.cf_model.proofs.CashKept.{cash_at_each}
pub use Rattle.cf_model.proofs.ChangeRows.{asset_years, sum_minus, leave_rows}
pub use Rattle.cf_model.proofs.Changed.{original_push, appropriated_push, held_push, encumbered_push, expended_push, nothing_rolled, unrolled_moves}
pub use Rattle.cf_model.proofs.CloseBounds.{depreciated_most}
pub use Rattle.cf_model.proofs.Debt.{early_dues, earned_le}
pub use Rattle.cf_model.proofs.DeedLaw.{deeds_law, to_absences, to_accrued, to_deferred, to_items, capital_part, to_bonds, to_capital}
pub use Rattle.cf_model.proofs.Deferred.{by_bill, billed_one, left_through, settled_one}
pub use Rattle.cf_model.proofs.Depreciated.{IsSoundAsset, depreciated_le, not_depreciated, quotient_le}
pub use Rattle.cf_model.proofs.First.{or_else_none, refuse_none, first_refusal-append, first_of_none, AllNone, first_of-append, first_below_found, none_below, voucher_names-drop, first_refusal-drop}
pub use Rattle.cf_model.proofs.Functions.{whole}
pub use Rattle.cf_model.proofs.FundAccounts.{fund_balance_is}
pub use Rattle.cf_model.proofs.Funded.{IsFund}
pub use Rattle.cf_model.proofs.Holdings.{IsLowBond, IsLowCost, are_held, payment_in_form, are_timely}
pub use Rattle.cf_model.proofs.ItemMoves.{deferred_now, one_bill, still_deferred}
pub use Rattle.cf_model.proofs.Kept.{spend_same, hold_same}
pub use Rattle.cf_model.proofs.Lawful.{IsWhole, passed, IsLawful}
pub use Rattle.cf_model.proofs.Legal.{legal_induction, legal_push, legal_take}
pub use Rattle.cf_model.proofs.LegalMonths.{next_named, closed_are}
pub use Rattle.cf_model.proofs.LegalReconciled.{is_lawful, changes_always, reconciles_always, changes_at_each, reconciles_at_each}
pub use Rattle.cf_model.proofs.MonthNumbers.{IsNamed, early, HasCalendar, ClosesNext, year_is, ClosedAre, day_year_is, from_closed}
pub use Rattle.cf_model.proofs.Moved.{first, last, moved_append, moved_none, none_both, rolls_none, at, moved_map}
pub use Rattle.cf_model.proofs.OpenYears.{years_are, closes_open, open_year_push}
pub use Rattle.cf_model.proofs.Postable.{postable}
pub use Rattle.cf_model.proofs.Posted.{all_filter, posts_push, all_posts, years_of}
pub use Rattle.cf_model.proofs.PostedYears.{posts_years}
pub use Rattle.cf_model.proofs.Pushes.{documents_are, registers_push, results_push}
pub use Rattle.cf_model.proofs.RollAsked.{exceed_close, unrolled, amend_unrolled, transfer_unrolled}
pub use Rattle.cf_model.proofs.RollMoves.{encumbers_to, none_carried, none_encumbered, none_held, roll_carries, roll_encumbers, roll_releases}
pub use Rattle.cf_model.proofs.Room.{room_now, room_always}
pub use Rattle.cf_model.proofs.RunningInterest.{running, running_charge, charge_is}
pub use Rattle.cf_model.proofs.Sized.{posts_small, filter_le, posts_fit}
pub use Rattle.cf_model.proofs.SpendingBounds.{spendings_within}
pub use Rattle.cf_model.proofs.SpendingPushes.{spendings_push}
pub use Rattle.cf_model.proofs.Spent.{not_closed}
pub use Rattle.cf_model.proofs.Stripped.{adds_accepted}
pub use Rattle.cf_model.proofs.Tidy.{all_append, all_map, all_new, IsSameItem, step_place, step_same, documents_push, both, le_true, not_true, true_le, same_place, IsTidy, tidy_always, IsNewItem, charges, is_charged, new_items, step_taken, distinct_append, rolled_below, after_act, by_own_number}
pub use Rattle.cf_model.proofs.Totals.{all_so, sum_same, sum_pos, none_first, split_sum, passing, exchange, find_sum, found_passes, none_last, one_passes, same_all, sum_append, sum_filter, sum_none, sum_map, stepped_all, stepped_sum, sum_negated, sum_plus}
pub use Rattle.cf_model.proofs.Touched.{numbers_stay_after, IsOut, IsSpentOut, documents_out, spendings_out, off_line}
pub use Rattle.cf_model.proofs.Years.{document_within}
