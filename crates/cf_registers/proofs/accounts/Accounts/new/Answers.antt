use Rattle.cf_model.specs.Common.{Gov}
use Rattle.cf_calls.specs.declared.read.Basis.TheVariants.{Fund}
use Rattle.cf_registers.proofs.accounts.Accounts.new.Goals as goal

pub returns-clause-fund : goal.returns-clause-fund
returns-clause-fund c = c.new.ensures Fund

pub returns-clause-gov : goal.returns-clause-gov
returns-clause-gov c = c.new.ensures Gov
