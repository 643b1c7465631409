-- What contracts see of the ledgers of accepted calls and of fault replies, and of parts of both.
use Rattle.std.specs.Prelude.{ℕ}

pub record TotalsState : Type 0 where
  pub accepted : ℕ
  pub faulted : ℕ

-- so many parts of each, which count so many accepted calls and so many fault replies
pub record SharesState : Type 0 where
  pub parts : ℕ
  pub accepted : ℕ
  pub faulted : ℕ
