-- What threads share of a hall may be shared, and a pass may go to another thread.
use denote.RattleType.{RattleType}
use denote.Param.{number}
use denote.Param.Send.{IsSend, IsSync, sendable, struct_send, struct_sync, recorded_send, recorded_sync, view_send, view_sync}
use denote.Struct.Declared.{shape}
use Rattle.std.proofs.Crossing as heap
use Rattle.cf_base.proofs.Common.{crosses}
use Rattle.std.proofs.MapsCrossing as maps
use Rattle.std.proofs.sync.ledger.Share.TheSendSync as share
use Rattle.std.proofs.sync.ledger.Book.TheSendSync as ledger
use Rattle.atomic_table.proofs.shared.Seat.TheSendSync as seat
use Rattle.atomic_table.proofs.shared.Shared.TheSendSync as word
use Rattle.atomic_table.proofs.send_lease.SendLease.TheSendSync as lease
use Rattle.cf_hall_names.specs.declared.names.City as city
use Rattle.cf_disk.specs.declared.disk.Disk as disk
use Rattle.cf_calls.specs.contracts.list.List as list
use Rattle.cf_calls.specs.contracts.text.Text as text
use Rattle.cf_calls.specs.contracts.entry.Entry as entry
use Rattle.cf_calls.specs.contracts.acts.Act as act
use Rattle.cf_calls.specs.contracts.call.Change as change
use Rattle.cf_budget.specs.contracts.table.LineTable as table
use Rattle.cf_budget.specs.contracts.table.LineTable.TheInside as table_inside
use Rattle.cf_budget.specs.contracts.row.Row as row
use Rattle.cf_turns.specs.contracts.turns.Turns as turns
use Rattle.cf_turns.specs.contracts.turns.Turns.TheInside as turns_inside
use Rattle.cf_calls.specs.contracts.items.VoucherItem as VoucherItem
use Rattle.cf_calls.specs.contracts.items.AccountItem as AccountItem
use Rattle.cf_calls.specs.contracts.items.Charge as Charge
use Rattle.cf_calls.specs.contracts.items.Liquidation as Liquidation
use Rattle.cf_chart.specs.contracts.rows.Function as Function
use Rattle.cf_chart.specs.contracts.rows.Fund as Fund
use Rattle.cf_chart.specs.contracts.rows.Department as Department
use Rattle.cf_chart.specs.contracts.rows.Object as Object
use Rattle.cf_chart.specs.contracts.rows.RevenueSource as RevenueSource
use Rattle.cf_chart.specs.contracts.rows.Line as Line
use Rattle.cf_chart.specs.contracts.rows.Desk as Desk
use Rattle.cf_orders.specs.contracts.rows.HoldRow as HoldRow
use Rattle.cf_orders.specs.contracts.rows.ItemRow as ItemRow
use Rattle.cf_orders.specs.contracts.rows.ExpenditureRow as ExpenditureRow
use Rattle.cf_debt.specs.contracts.rows.BondRow as BondRow
use Rattle.cf_debt.specs.contracts.rows.LeaveRow as LeaveRow
use Rattle.cf_journal.specs.contracts.journal.Journal as journal
use Rattle.cf_calls.specs.contracts.reply.Made as made
use Rattle.cf_calls.specs.contracts.acts.Adoption as Adoption
use Rattle.cf_calls.specs.contracts.acts.NewRequisition as NewRequisition
use Rattle.cf_calls.specs.contracts.acts.NewOrder as NewOrder
use Rattle.cf_calls.specs.contracts.acts.NewVoucher as NewVoucher
use Rattle.cf_calls.specs.contracts.acts.Payment as Payment
use Rattle.cf_calls.specs.contracts.acts.BondIssue as BondIssue
use Rattle.cf_calls.specs.contracts.acts.NewLease as NewLease
use Rattle.cf_calls.specs.contracts.acts.Terms as Terms
use Rattle.cf_calls.specs.contracts.acts.OrderChange as OrderChange
use Rattle.cf_calls.specs.contracts.acts.AssetAct as AssetAct
use Rattle.cf_calls.specs.contracts.acts.LeaveAct as LeaveAct
use Rattle.cf_calls.specs.contracts.role.Role as Role
use Rattle.cf_chart.specs.contracts.index.LineKeyPartialEq.TheImpl as line_key_eq
use Rattle.cf_chart.specs.contracts.index.LineKeyPartialOrd.TheImpl as line_key_partial
use Rattle.cf_chart.specs.contracts.chart.Chart as chart
use Rattle.cf_chart.specs.contracts.chart.Chart.TheInside as chart_inside
use Rattle.cf_assets.specs.contracts.rows.AssetRow as AssetRow
use Rattle.cf_orders.specs.contracts.orders.Orders as orders
use Rattle.cf_orders.specs.contracts.orders.Orders.TheInside as orders_inside
use Rattle.cf_register_parts.specs.contracts.pairs.NumberPairPartialEq.TheImpl as pair_eq
use Rattle.cf_register_parts.specs.contracts.pairs.NumberPairPartialOrd.TheImpl as pair_partial
use Rattle.cf_revenue.specs.contracts.revenue.Revenue as revenue
use Rattle.cf_revenue.specs.contracts.revenue.Revenue.TheInside as revenue_inside
use Rattle.cf_assets.specs.contracts.inventory.Inventory as inventory
use Rattle.cf_assets.specs.contracts.inventory.Inventory.TheInside as inventory_inside
use Rattle.cf_assets.specs.contracts.assets.Assets as assets
use Rattle.cf_assets.specs.contracts.assets.Assets.TheInside as assets_inside
use Rattle.cf_debt.specs.contracts.debt.Debt as debt
use Rattle.cf_debt.specs.contracts.debt.Debt.TheInside as debt_inside
use Rattle.cf_registers.specs.contracts.registers.Registers as registers
use Rattle.cf_registers.specs.contracts.registers.Registers.TheInside as registers_inside
use Rattle.cf_ledger.specs.contracts.places.PlacePartialEq.TheImpl as place_eq
use Rattle.cf_ledger.specs.contracts.places.PlacePartialOrd.TheImpl as place_partial
use Rattle.cf_ledger.proofs.history.History.TheSendSync as history
use Rattle.cf_ledger.specs.contracts.book.Book as posted
use Rattle.cf_ledger.specs.contracts.book.Book.TheInside as posted_inside
use Rattle.cf_ledger.specs.contracts.ledger.Ledger as books
use Rattle.cf_ledger.specs.contracts.ledger.Ledger.TheInside as books_inside
use Rattle.cf_registers.specs.contracts.accounts.Accounts as accounts
use Rattle.cf_registers.specs.contracts.accounts.Accounts.TheInside as accounts_inside
use Rattle.cf_chart.specs.contracts.index.LineKey as LineKey
use Rattle.cf_register_parts.specs.contracts.pairs.NumberPair as NumberPair
use Rattle.cf_ledger.specs.contracts.places.Place as Place
use Rattle.cf_office_history.specs.contracts.rest.Rest as rest
use Rattle.cf_office_history.specs.contracts.rest.Rest.TheInside as rest_inside
use Rattle.cf_journal_book.specs.contracts.archive.Archive as archive
use Rattle.cf_hall_names.specs.contracts.shares.Totals as totals
use Rattle.cf_hall_names.specs.contracts.shares.Shares as shares
use Rattle.cf_hall_names.specs.contracts.ties.Counts as counts
use Rattle.cf_turns.specs.contracts.pass.Pass as turn
use Rattle.cf_turns.specs.contracts.recorder.Recorder as recorder
use Rattle.cf_turns.specs.contracts.tie.Tie as tie
use Rattle.cf_hall.specs.contracts.recording.Recording as recording
use Rattle.cf_hall.specs.contracts.pass.HallPass as pass
use Rattle.cf_hall.specs.contracts.stripe.Stripe as stripe
use Rattle.cf_hall.specs.contracts.places.Place as place
use Rattle.cf_hall.specs.contracts.places.Places as places
use Rattle.cf_hall.specs.contracts.book.HallBook as book
use Rattle.cf_hall.specs.contracts.shared.Shared as shared
use Rattle.cf_turns.specs.declared.tie.Stripe as striped
use denote.Plain.{UInt}
use mir.Syntax.{w16, w64}
use Rattle.cf_ledger.specs.contracts.post.Post as Post
use Rattle.std.specs.declared.sync.ledger.Ledger as ledgers
use Rattle.std.specs.contracts.prelude.U16PartialEq.TheImpl as u16_eq
use Rattle.std.specs.contracts.prelude.U16PartialOrd.TheImpl as u16_partial
use Rattle.std.specs.contracts.prelude.StringPartialEq.TheImpl as string_eq
use Rattle.std.specs.contracts.prelude.StringPartialOrd.TheImpl as string_partial
use Rattle.cf_hall.specs.contracts.shared.Shared.TheInside as shared_inside
use Rattle.std.specs.contracts.alloc.Global as global_row
use Rattle.std.specs.contracts.impls.GlobalAllocator.TheImpl as global_impl
use denote.Struct.Field.{i128-field}

pub text_send : IsSend text.the_row
text_send = search (sendable, crosses) depth 20

pub text_sync : IsSync text.the_row
text_sync = search (sendable, crosses) depth 20

pub list_send : (T : RattleType) → IsSend T → IsSend (list.the_row T)
list_send T sends = search (sendable, crosses) depth 20

pub list_sync : (T : RattleType) → IsSync T → IsSync (list.the_row T)
list_sync T syncs = search (sendable, crosses) depth 20

pub made_send : IsSend made.the_row
made_send = search sendable depth 60

pub journal_send : IsSend journal.the_row
journal_send = search (sendable, crosses) depth 20

pub leave_send : IsSend LeaveRow.the_row
leave_send = search sendable depth 20

pub line_sync : IsSync Line.the_row
line_sync = search sendable depth 40

pub line_send : IsSend Line.the_row
line_send = search sendable depth 40

pub source_sync : IsSync RevenueSource.the_row
source_sync = search (text_sync, sendable) depth 40

pub source_send : IsSend RevenueSource.the_row
source_send = search (text_send, sendable) depth 40

pub object_sync : IsSync Object.the_row
object_sync = search (text_sync, sendable) depth 40

pub object_send : IsSend Object.the_row
object_send = search (text_send, sendable) depth 40

pub department_sync : IsSync Department.the_row
department_sync = search (text_sync, sendable) depth 40

pub department_send : IsSend Department.the_row
department_send = search (text_send, sendable) depth 40

pub fund_sync : IsSync Fund.the_row
fund_sync = search (text_sync, sendable) depth 40

pub fund_send : IsSend Fund.the_row
fund_send = recorded_send Fund.the_field.row _ _ Fund.the_type.to_one (struct_send (shape Fund.the_type) (search sendable, (text_send, (search sendable depth 20, (search sendable depth 20, (search sendable depth 20, (search sendable depth 20, (search sendable depth 20, tt))))))))

pub function_sync : IsSync Function.the_row
function_sync = search (text_sync, sendable) depth 40

pub function_send : IsSend Function.the_row
function_send = search (text_send, sendable) depth 40

pub line_key_sync : IsSync LineKey.the_row
line_key_sync = search sendable depth 20

pub amount_send : IsSend i128-field.row
amount_send = search sendable depth 20

pub post_row_send : IsSend Post.the_row
post_row_send = search sendable depth 20

pub place_send : IsSend Place.the_row
place_send = search sendable depth 20

pub pair_send : IsSend NumberPair.the_row
pair_send = search sendable depth 20

pub line_key_send : IsSend LineKey.the_row
line_key_send = search sendable depth 20

pub u64_send : IsSend (UInt w64)
u64_send = search sendable depth 20

pub u16_sync : IsSync (UInt w16)
u16_sync = search sendable depth 20

pub u16_send : IsSend (UInt w16)
u16_send = search sendable depth 20

pub row_send : IsSend row.the_row
row_send = search sendable depth 20

pub account_send : IsSend AccountItem.the_field.row
account_send = search sendable depth 20

pub hold_send : IsSend HoldRow.the_row
hold_send = search (account_send, sendable) depth 40

pub liquidation_send : IsSend Liquidation.the_row
liquidation_send = search sendable depth 20

pub charge_field_send : IsSend Charge.the_field.row
charge_field_send = search (sendable, liquidation_send) depth 20

pub expenditure_send : IsSend ExpenditureRow.the_row
expenditure_send = search (account_send, charge_field_send, sendable) depth 40

pub item_send : IsSend VoucherItem.the_row
item_send = recorded_send VoucherItem.the_field.row _ _ VoucherItem.the_type.to_one (struct_send (shape VoucherItem.the_type) (account_send, (charge_field_send, tt)))

pub table_send2 : IsSend table_inside.the_row
table_send2 = recorded_send table_inside.the_field.row _ _ table_inside.the_type.to_one (struct_send (shape table_inside.the_type) (maps.BTreeMap-send _ _ _ pair_eq.ghosts pair_partial.ghosts pair_send row_send, tt))

pub orderitem_send : IsSend ItemRow.the_row
orderitem_send = recorded_send ItemRow.the_field.row _ _ ItemRow.the_type.to_one (struct_send (shape ItemRow.the_type) (account_send, (search sendable, (search sendable, (search sendable, (search sendable, (search sendable, (search sendable, (search sendable depth 20, tt)))))))))

pub change_send : IsSend OrderChange.the_field.row
change_send = search sendable depth 20

pub adoption_send : IsSend Adoption.the_field.row
adoption_send = search (sendable, list_send) depth 20

pub requisition_send : IsSend NewRequisition.the_field.row
requisition_send = search (sendable, list_send) depth 20

pub order_send : IsSend NewOrder.the_field.row
order_send = search (sendable, list_send) depth 20

pub payment_send : IsSend Payment.the_field.row
payment_send = search (sendable, list_send) depth 20

pub terms_send : IsSend Terms.the_field.row
terms_send = search (sendable, list_send) depth 20

pub issue_send : IsSend BondIssue.the_field.row
issue_send = search (terms_send, sendable) depth 20

pub lease_send : IsSend NewLease.the_field.row
lease_send = search (account_send, terms_send, sendable) depth 20

pub asset_send : IsSend AssetAct.the_field.row
asset_send = search sendable depth 30

pub leave_act_send : IsSend LeaveAct.the_field.row
leave_act_send = search sendable depth 30

pub voucher_field_send : IsSend NewVoucher.the_field.row
voucher_field_send = struct_send (shape NewVoucher.the_type) (search sendable, (search sendable, (list_send _ item_send, tt)))

pub table_send : IsSend table.the_row
table_send = view_send _ _ _ _ _ table_send2

pub turns_sync : IsSync turns.the_row
turns_sync = view_sync _ _ _ _ _ (recorded_sync turns_inside.the_field.row _ _ turns_inside.the_type.to_one (struct_sync (shape turns_inside.the_type) (search (word.the_sync, lease.the_sync, heap.frees, heap.send, heap.sync, sendable) depth 20, tt)))

pub desk_send : IsSend Desk.the_row
desk_send = recorded_send Desk.the_field.row _ _ Desk.the_type.to_one (struct_send (shape Desk.the_type) (search sendable, (text_send, (list_send Role.the_row (search sendable depth 20), tt))))

pub desk_sync : IsSync Desk.the_row
desk_sync = recorded_sync Desk.the_field.row _ _ Desk.the_type.to_one (struct_sync (shape Desk.the_type) (search sendable, (text_sync, (list_sync Role.the_row (search sendable depth 20), tt))))

pub bond_send : IsSend BondRow.the_row
bond_send = recorded_send BondRow.the_field.row _ _ BondRow.the_type.to_one (struct_send (shape BondRow.the_type) (search sendable, (search sendable, (search sendable, (search sendable, (search sendable, (search sendable, (search sendable depth 20, (search sendable, (search sendable, (search sendable, (search sendable, tt))))))))))))

pub asset_row_send : IsSend AssetRow.the_row
asset_row_send = search (sendable, crosses) depth 40

pub inventory_send : IsSend inventory.the_row
inventory_send = view_send _ _ _ _ _ (recorded_send inventory_inside.the_field.row _ _ inventory_inside.the_type.to_one (struct_send (shape inventory_inside.the_type) (heap.Vec-send _ asset_row_send, (heap.Vec-send _ (search sendable), (heap.Vec-send _ (search sendable), (search sendable, (search sendable, (search sendable, (search sendable, tt)))))))))

pub assets_send : IsSend assets.the_row
assets_send = view_send _ _ _ _ _ (recorded_send assets_inside.the_field.row _ _ assets_inside.the_type.to_one (struct_send (shape assets_inside.the_type) (inventory_send, (heap.Vec-send _ (search sendable depth 20), (heap.Vec-send _ (search sendable), (search sendable, tt))))))

pub chart_send : IsSend chart.the_row
chart_send = view_send _ _ _ _ _ (recorded_send chart_inside.the_field.row _ _ chart_inside.the_type.to_one (struct_send (shape chart_inside.the_type) (text_send, (search sendable, (search sendable, (list_send _ function_send, (list_send _ fund_send, (list_send _ department_send, (list_send _ object_send, (list_send _ source_send, (list_send _ line_send, (maps.BTreeMap-send _ _ _ line_key_eq.ghosts line_key_partial.ghosts line_key_send u16_send, (list_send _ desk_send, tt)))))))))))))

pub chart_sync : IsSync chart.the_row
chart_sync = view_sync _ _ _ _ _ (recorded_sync chart_inside.the_field.row _ _ chart_inside.the_type.to_one (struct_sync (shape chart_inside.the_type) (text_sync, (search sendable, (search sendable, (list_sync _ function_sync, (list_sync _ fund_sync, (list_sync _ department_sync, (list_sync _ object_sync, (list_sync _ source_sync, (list_sync _ line_sync, (maps.BTreeMap-sync _ _ _ line_key_eq.ghosts line_key_partial.ghosts line_key_sync u16_sync, (list_sync _ desk_sync, tt)))))))))))))

pub act_field_send : IsSend act.the_field.row
act_field_send = search (adoption_send, requisition_send, order_send, change_send, voucher_field_send, payment_send, issue_send, lease_send, asset_send, leave_act_send, sendable) depth 60 fits 100000

pub call_change_field_send : IsSend change.the_field.row
call_change_field_send = struct_send (shape change.the_type) (search sendable, (text_send, (search sendable, (search sendable depth 20, (act_field_send, tt)))))

pub entry_send : IsSend entry.the_row
entry_send = recorded_send entry.the_field.row _ _ entry.the_type.to_one (struct_send (shape entry.the_type) (call_change_field_send, (search sendable, tt)))

pub entry_field_send : IsSend entry.the_field.row
entry_field_send = struct_send (shape entry.the_type) (call_change_field_send, (search sendable, tt))

pub orders_send : IsSend orders.the_row
orders_send = view_send _ _ _ _ _ (recorded_send orders_inside.the_field.row _ _ orders_inside.the_type.to_one (struct_send (shape orders_inside.the_type) (heap.Vec-send _ hold_send, (search (sendable, crosses) depth 20, (heap.Vec-send _ orderitem_send, (search (sendable, crosses) depth 20, (heap.Vec-send _ expenditure_send, (search (sendable, crosses) depth 20, (search sendable, tt)))))))))

pub revenue_send : IsSend revenue.the_row
revenue_send = view_send _ _ _ _ _ (recorded_send revenue_inside.the_field.row _ _ revenue_inside.the_type.to_one (struct_send (shape revenue_inside.the_type) (search (sendable, crosses) depth 20, (search (sendable, crosses) depth 20, (search (sendable, crosses) depth 20, (search (sendable, crosses) depth 20, (maps.BTreeMap-send _ _ _ pair_eq.ghosts pair_partial.ghosts pair_send u64_send, (search sendable, (search sendable, (search sendable, tt))))))))))

pub debt_send : IsSend debt.the_row
debt_send = view_send _ _ _ _ _ (recorded_send debt_inside.the_field.row _ _ debt_inside.the_type.to_one (struct_send (shape debt_inside.the_type) (heap.Vec-send _ bond_send, (search (sendable, crosses) depth 20, (search (sendable, crosses) depth 20, (heap.Vec-send _ leave_send, (maps.BTreeMap-send _ _ _ pair_eq.ghosts pair_partial.ghosts pair_send u64_send, (search sendable, (search sendable, (search sendable, (search sendable, (search sendable, (search sendable, (search sendable, (search sendable, (search sendable, (search sendable, tt)))))))))))))))))

pub registers_send : IsSend registers.the_row
registers_send = view_send _ _ _ _ _ (recorded_send registers_inside.the_field.row _ _ registers_inside.the_type.to_one (struct_send (shape registers_inside.the_type) (orders_send, (revenue_send, (assets_send, (debt_send, tt))))))

pub turn_send : IsSend turn.the_row
turn_send = search (sendable, seat.the_send) depth 20

pub recorder_send : IsSend recorder.the_row
recorder_send = search (sendable, seat.the_send) depth 20

pub totals_send : (N : RattleType) (n : city.Ghosts N.Denot) → IsSend (totals.the_row N n)
totals_send N n = search (sendable, ledger.the_send) depth 20

pub shares_send : (N : RattleType) (n : city.Ghosts N.Denot) → IsSend (shares.the_row N n)
shares_send N n = search (sendable, share.the_send) depth 20

pub counts_send : (N : RattleType) (n : city.Ghosts N.Denot) → IsSend (counts.the_row N n)
counts_send N n = search (sendable, ledger.the_send) depth 20

pub pass_send : (N : RattleType) (n : city.Ghosts N.Denot) → IsSend (pass.the_row N n)
pass_send N n = search (sendable, turn_send, shares_send) depth 20

pub recording_send : (N : RattleType) (n : city.Ghosts N.Denot) → IsSend (recording.the_row N n)
recording_send N n = search (sendable, recorder_send, counts_send) depth 20

pub tie_send : (S : RattleType) (g : striped.Ghosts S.Denot) (l : ledgers.Ghosts S.Denot) → IsSend (tie.the_row S g l)
tie_send S g l = search (sendable, turn_send, share.the_send) depth 20

pub stripe_send : (N K : RattleType) (n : city.Ghosts N.Denot) → IsSend (stripe.the_row N K n)
stripe_send N K n = search (sendable, table_send, tie_send) depth 20

pub place_sync : (N K : RattleType) (n : city.Ghosts N.Denot) → IsSync (place.the_field N K n).row
place_sync N K n = search (sendable, crosses, stripe_send) depth 20

pub places_sync : (N : RattleType) (n : city.Ghosts N.Denot) → IsSync (places.the_field N n).row
places_sync N n = struct_sync (shape (places.the_type N n)) (place_sync N (number 0) n, (place_sync N (number 1) n, (place_sync N (number 2) n, (place_sync N (number 3) n, (place_sync N (number 4) n, (place_sync N (number 5) n, (place_sync N (number 6) n, (place_sync N (number 7) n, tt))))))))

pub posted_send : IsSend posted.the_row
posted_send = view_send _ _ _ _ _ (recorded_send posted_inside.the_field.row _ _ posted_inside.the_type.to_one (struct_send (shape posted_inside.the_type) (maps.BTreeMap-send _ _ _ place_eq.ghosts place_partial.ghosts place_send (heap.Vec-send _ amount_send), (search sendable, (history.the_send _ post_row_send, (search sendable depth 20, tt))))))

pub ledger_books_send : IsSend books.the_row
ledger_books_send = view_send _ _ _ _ _ (recorded_send books_inside.the_field.row _ _ books_inside.the_type.to_one (struct_send (shape books_inside.the_type) (posted_send, (posted_send, tt))))

pub accounts_send : IsSend accounts.the_row
accounts_send = view_send _ _ _ _ _ (recorded_send accounts_inside.the_field.row _ _ accounts_inside.the_type.to_one (struct_send (shape accounts_inside.the_type) (ledger_books_send, (search (sendable, crosses) depth 20, (search (sendable, crosses) depth 20, tt)))))

pub rest_send : IsSend rest.the_row
rest_send = view_send _ _ _ _ _ (recorded_send rest_inside.the_field.row _ _ rest_inside.the_type.to_one (struct_send (shape rest_inside.the_type) (search sendable depth 20, (chart_send, (heap.Vec-send _ entry_send, (heap.Vec-send _ made_send, (maps.BTreeMap-send _ _ _ u16_eq.ghosts u16_partial.ghosts u16_send (maps.BTreeMap-send _ _ _ (string_eq.ghosts global_row.the_row global_impl.ghosts string_eq.no_dict string_eq.no_dict) (string_partial.ghosts global_row.the_row global_impl.ghosts string_partial.no_dict string_partial.no_dict) maps.String-send u64_send), (maps.BTreeMap-send _ _ _ pair_eq.ghosts pair_partial.ghosts pair_send u64_send, (registers_send, (accounts_send, (search sendable, (search (entry_field_send, sendable) depth 20, tt))))))))))))

pub archive_send : (D : RattleType) (d : disk.Ghosts D.Denot) → IsSend D → IsSend (archive.the_row D d)
archive_send D d sends = search (sendable, crosses, rest_send, journal_send, entry_send) depth 20

pub book_send : (N D : RattleType) (n : city.Ghosts N.Denot) (d : disk.Ghosts D.Denot) → IsSend D → IsSend (book.the_row N D n d)
book_send N D n d sends = search (sendable, archive_send, recording_send, totals_send) depth 20

pub shared_sync : (N D : RattleType) (n : city.Ghosts N.Denot) (d : disk.Ghosts D.Denot) → IsSend D → IsSync (shared.the_row N D n d)
shared_sync N D n d sends = view_sync _ _ _ _ _ (recorded_sync (shared_inside.the_field N D n d).row _ _ (shared_inside.the_type N D n d).to_one (struct_sync (shape (shared_inside.the_type N D n d)) (turns_sync, (chart_sync, (places_sync N n, (search (crosses, book_send, sendable) depth 20, tt))))))
