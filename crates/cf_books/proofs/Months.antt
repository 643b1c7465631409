-- A month that can be asked for is one that a call may state.
use Rattle.std.proofs.Common.{◌≡◌, ◌≤◌, true, arith}
use Rattle.cf_base.proofs.Common.{nat_tests}
use Rattle.cf_base.specs.Common.{is_call_month}
use Rattle.cf_model.specs.Common.{Month}
use Rattle.cf_books.specs.Answers.{is_asked_month}

pub asked_call : (m : Month) → is_asked_month m ≡ true → is_call_month m ≡ true
asked_call m is = grind (arith, nat_tests)

pub asked_from : (m : Month) → is_asked_month m ≡ true → 1971 ≤ m.year
asked_from m is = grind (arith, nat_tests)
