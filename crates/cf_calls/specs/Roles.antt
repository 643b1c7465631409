-- Whether two roles are the same.
use Rattle.std.specs.Prelude.{Bool, true, false}
use Rattle.cf_calls.specs.declared.role.Role.{Role}
use Rattle.cf_calls.specs.declared.role.Role.TheVariants.{Council, Dept, Purchasing, Payables, Treasury, Revenue, Assets, Payroll, Controller}

abbrev pub is_role : Role → Role → Bool
is_role Council Council = true
is_role Dept Dept = true
is_role Purchasing Purchasing = true
is_role Payables Payables = true
is_role Treasury Treasury = true
is_role Revenue Revenue = true
is_role Assets Assets = true
is_role Payroll Payroll = true
is_role Controller Controller = true
is_role _ _ = false
