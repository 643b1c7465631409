-- The acts of the generator: on the control lines and sources of its city, by the desk of each
-- role, on 2025-07-01.
use Rattle.std.specs.Prelude.{ℕ, ◌+◌, ◌/◌, ◌%◌, ◌==◌, ◌++◌, nat_lt, if◌then◌else◌, [], ◌∷◌, Option, Some, None, codes, map, false}
use Rattle.std.specs.List.{range_with_len}
use Rattle.std.specs.Fmt.{decimal}
use Rattle.cf_model.specs.Common.{Day, Act, Change, AccountItem, Charge, Direct, OnOrder, Final, LineAmount, Role}
use Rattle.cf_calls.specs.Common.{role_of}
use Rattle.cf_calls.specs.declared.acts.Act.TheVariants as act
use Rattle.cf_calls.specs.declared.acts.Period.TheVariants as period
use Rattle.cf_calls.specs.declared.role.Role.TheVariants as role
use Rattle.cf_run_generate.specs.declared.turn.Turn.{Turn}
use Rattle.cf_run_generate.specs.declared.turn.Choice.{Choice}
use Rattle.cf_run_generate.specs.declared.turn.Choice.TheVariants as choice
use Rattle.cf_run_generate.specs.Turns.{amount_of, choice_of, line_of}

abbrev pub first_day : Day
first_day = record { year = 2025; month = 7; day = 1 }

-- the desk of a role
abbrev pub desk_of : Role → ℕ
desk_of role.Council = 1
desk_of role.Dept = 2
desk_of role.Purchasing = 3
desk_of role.Payables = 4
desk_of role.Treasury = 5
desk_of role.Revenue = 6
desk_of role.Assets = 7
desk_of role.Payroll = 8
desk_of role.Controller = 9

-- the call of this number, with the key `g` and the number
abbrev pub change_of : ℕ → Act → Change
change_of number a =
    record {
      desk = desk_of (role_of a);
      key = codes "g" ++ decimal number;
      on = first_day;
      after = None;
      act = a;
    }

-- ---- the acts

-- 10^12 cents for a line
abbrev pub line_amount : ℕ → LineAmount
line_amount line = record { line = line; amount = 1000000000000 }

-- the budget of a fund for 2026: the same for each of so many lines from the first on
abbrev pub adoption : ℕ → ℕ → ℕ → Act
adoption fund first count =
    act.Adopt (record {
      fund = fund;
      year = 2026;
      lines = map line_amount (range_with_len first count);
      estimates = [];
    })

abbrev pub receipt : ℕ → ℕ → Act
receipt source amount = act.Receive (record { source = source; amount = amount })

-- the account of a control line
abbrev pub account_of : ℕ → ℕ → AccountItem
account_of line amount =
    if nat_lt line 30 then record
    { fund = 1; dept = line / 10 + 1; object = 101 + line % 10; amount = amount }
    else (if nat_lt line 38 then record { fund = 2; dept = 4; object = 71 + line; amount = amount }
    else (if line == 38 then record { fund = 3; dept = 4; object = 111; amount = amount }
    else record { fund = 3; dept = 1; object = 111; amount = amount }))

abbrev pub order : ℕ → ℕ → Act
order line amount =
    act.Order (record { vendor = 1; requisition = None; items = account_of line amount ∷ [] })

abbrev pub voucher : ℕ → ℕ → Charge → Act
voucher line amount charge =
    act.Voucher (record {
      vendor = 1;
      back = false;
      items = record { account = account_of line amount; charge = charge } ∷ [];
    })

-- the final voucher on the last order's item, on the order's own account; a direct one where no
-- order waits
abbrev pub last_voucher : Turn → Option ℕ → Act
last_voucher t None = voucher (line_of t) (amount_of t) Direct
last_voucher t (Some line) = voucher line (amount_of t) (OnOrder 1 t.orders Final)

abbrev pub act_by : Choice → Turn → Act
act_by choice.Order t = order (line_of t) (amount_of t)
act_by choice.Direct t = voucher (line_of t) (amount_of t) Direct
act_by choice.Final t = last_voucher t t.waiting
act_by choice.Receipt t = receipt 4 (amount_of t)

abbrev pub act_of : Turn → Act
act_of t = act_by (choice_of t) t

-- the close of July 2025
abbrev pub month_close : Act
month_close = act.Close (period.Month (record { year = 2025; month = 7 }))
