use Rattle.std.proofs.Common.{◌≡◌, ◌+◌, ◌≤◌, ◌++◌, length, drop, vec_len, vec_capacity}
use Rattle.cf_orders.specs.Rows.{rows_from}
use Rattle.cf_orders.proofs.order_items.add_items.Given as goal

abbrev pub invariant-loop-account : goal.invariant-loop-account
invariant-loop-account l =
    (l.items.items ++ rows_from l.header.number l.vendor l.header.year l.place (drop l.account-index l.accounts) ≡ l.fn.items.items ++ rows_from l.header.number l.vendor l.header.year 1 l.accounts)
    × (l.place ≡ l.account-index + 1)
    × (vec_len l.items ≡ vec_len l.fn.items + l.account-index)
    × (vec_len l.fn.items + length l.accounts ≤ vec_capacity l.items)
