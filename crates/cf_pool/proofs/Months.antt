-- The months that a call may state.
use Rattle.std.proofs.Common.{◌≡◌, ◌≤◌, ◌&&◌, true, nat_le, leb-true}
use Rattle.cf_base.proofs.Common.{and_parts}
use Rattle.cf_base.specs.Common.{is_call_month}
use Rattle.cf_base.specs.declared.calendar.Month.{Month}

pub call_month_year : (m : Month) → is_call_month m ≡ true → m.year ≤ 2199
call_month_year m h =
    let p = and_parts (nat_le 1970 m.year && nat_le m.year 2199 && nat_le 1 m.month) (nat_le m.month 12) h in
    let q = and_parts (nat_le 1970 m.year && nat_le m.year 2199) (nat_le 1 m.month) p.0 in
    let r = and_parts (nat_le 1970 m.year) (nat_le m.year 2199) q.0 in
    leb-true m.year 2199 r.1
