use Rattle.cf_model.proofs.Worked as row
use Rattle.cf_model.proofs.laws.worked_rows.Goals as goal

pub returns-clause-room : goal.returns-clause-room
returns-clause-room c = row.spends_to_the_cent

pub returns-clause-verdicts : goal.returns-clause-verdicts
returns-clause-verdicts c = row.tells_room

pub returns-clause-orders : goal.returns-clause-orders
returns-clause-orders c = row.liquidates_orders

pub returns-clause-roll : goal.returns-clause-roll
returns-clause-roll c = row.rolls_orders

pub returns-clause-window : goal.returns-clause-window
returns-clause-window c = row.recognises_collections

pub returns-clause-depreciation : goal.returns-clause-depreciation
returns-clause-depreciation c = row.depreciates_by_months

pub returns-clause-interest : goal.returns-clause-interest
returns-clause-interest c = row.earns_interest

pub returns-clause-leave : goal.returns-clause-leave
returns-clause-leave c = row.keeps_leave

pub returns-clause-bases : goal.returns-clause-bases
returns-clause-bases c = row.joins_both_bases

pub returns-clause-repeats : goal.returns-clause-repeats
returns-clause-repeats c = row.tells_repeats

pub returns-clause-order : goal.returns-clause-order
returns-clause-order c = row.refuses_in_order

pub returns-clause-closes : goal.returns-clause-closes
returns-clause-closes c = row.closes_in_order

pub returns-clause-cash : goal.returns-clause-cash
returns-clause-cash c = row.pays_from_cash
