use Rattle.cf_model.specs.Common.{Gov}
use Rattle.cf_calls.specs.declared.read.Basis.TheVariants.{Fund}
use Rattle.cf_registers.proofs.Reserved.{kept}
use Rattle.cf_registers.proofs.accounts.Accounts.apply.Goals as goal

pub add-requires-2-clause-reserved : goal.add-requires-2-clause-reserved
add-requires-2-clause-reserved c = rw c.as_slice-2.ensures.value (kept _ _ Gov _ c.add.ensures.keeps c.self.invariant.gov)

pub invariant_of-self : goal.invariant_of-self
invariant_of-self c = record {
  fund = kept _ _ Fund _ c.add-2.ensures.keeps (kept _ _ Fund _ c.add.ensures.keeps c.self.invariant.fund);
  gov = kept _ _ Gov _ c.add-2.ensures.keeps (kept _ _ Gov _ c.add.ensures.keeps c.self.invariant.gov);
}
