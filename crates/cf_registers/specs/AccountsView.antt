-- The accounts of a history as contracts see them.
use Rattle.cf_model.specs.Common.{Gov}
use Rattle.cf_calls.specs.declared.read.Basis.TheVariants.{Fund}
use Rattle.cf_ledger.specs.Books as books
use Rattle.cf_registers.specs.AccountsState.{AccountsState}
use Rattle.cf_registers.specs.declared.accounts.Accounts.TheInside.{Inside}

abbrev pub accounts_state : Inside → AccountsState
accounts_state a = record {
  fund = books.posts_of a.ledger Fund;
  gov = books.posts_of a.ledger Gov;
  ready_fund = a.fund.items;
  ready_gov = a.gov.items;
}

-- adding the posts that are ready takes no memory
pub record AreReserved (a : Inside) : Type 0 where
  pub fund : books.AreReserved a.ledger Fund a.fund.items
  pub gov : books.AreReserved a.ledger Gov a.gov.items
