use Rattle.std.proofs.Common.{◌∙◌}
use Rattle.cf_model.specs.Common.{Gov}
use Rattle.cf_calls.specs.declared.read.Basis.TheVariants.{Fund}
use Rattle.cf_ledger.specs.Books.{AreReserved}
use Rattle.cf_registers.proofs.Reserved.{kept}
use Rattle.cf_registers.proofs.accounts.Accounts.reserve.Goals as goal

pub invariant_of-self : goal.invariant_of-self
invariant_of-self c = record {
  fund = kept _ _ Fund _ c.reserve.ensures.keeps c.self.invariant.fund;
  gov = kept _ _ Gov _ c.reserve.ensures.keeps c.self.invariant.gov;
}

pub returns-in_err-reserve-clause-fund : goal.returns-in_err-reserve-clause-fund
returns-in_err-reserve-clause-fund c = rw (← c.self.view_is) (c.reserve.ensures.same Fund)

pub returns-in_err-reserve-clause-gov : goal.returns-in_err-reserve-clause-gov
returns-in_err-reserve-clause-gov c = rw (← c.self.view_is) (c.reserve.ensures.same Gov)

pub invariant_of-self-in_err-reserve-2 : goal.invariant_of-self-in_err-reserve-2
invariant_of-self-in_err-reserve-2 c = record {
  fund = kept _ _ Fund _ c.reserve-2.ensures.keeps (kept _ _ Fund _ c.reserve.ensures.keeps c.self.invariant.fund);
  gov = kept _ _ Gov _ c.reserve-2.ensures.keeps (kept _ _ Gov _ c.reserve.ensures.keeps c.self.invariant.gov);
}

pub returns-in_err-reserve-2-clause-fund : goal.returns-in_err-reserve-2-clause-fund
returns-in_err-reserve-2-clause-fund c = rw (← c.self.view_is) (c.reserve-2.ensures.same Fund ∙ c.reserve.ensures.same Fund)

pub returns-in_err-reserve-2-clause-gov : goal.returns-in_err-reserve-2-clause-gov
returns-in_err-reserve-2-clause-gov c = rw (← c.self.view_is) (c.reserve-2.ensures.same Gov ∙ c.reserve.ensures.same Gov)

pub invariant_of-self-2 : goal.invariant_of-self-2
invariant_of-self-2 c =
    let fund : AreReserved c.reserve.new.self Fund c.in_ok-fund.fund.items = rw c.as_slice-3.ensures.value at c.in_ok-reserve.ensures.reserved in
    let gov : AreReserved c.reserve-2.new.self Gov c.in_ok-gov.gov.items = rw c.as_slice-4.ensures.value at c.in_ok-reserve-2.ensures.reserved in
    record {
      fund = kept _ _ Fund _ c.reserve-2.ensures.keeps fund;
      gov = gov;
    }

pub returns-clause-fund : goal.returns-clause-fund
returns-clause-fund c = rw (← c.self.view_is) (c.reserve-2.ensures.same Fund ∙ c.reserve.ensures.same Fund)

pub returns-clause-gov : goal.returns-clause-gov
returns-clause-gov c = rw (← c.self.view_is) (c.reserve-2.ensures.same Gov ∙ c.reserve.ensures.same Gov)

pub posts-requires : goal.posts-requires
posts-requires c = rw (c.as_slice.ensures.value, c.in_ok-deeds.ensures) c.requires.postable

pub posts-requires-2 : goal.posts-requires-2
posts-requires-2 c = rw (c.as_slice-2.ensures.value, c.in_ok-deeds.ensures) c.requires.postable
