-- The registers as contracts see them.
use Rattle.std.specs.Prelude.{◌≡◌}
use Rattle.cf_registers.specs.RegistersState.{RegistersState}
use Rattle.cf_registers.specs.declared.registers.Registers.TheInside.{Inside}

abbrev pub registers_state : Inside → RegistersState
registers_state a = record {
  registers = record {
    documents = a.orders.documents;
    receivables = a.revenue.receivables;
    assets = a.assets.assets;
    bonds = a.debt.debts.bonds;
    leave = a.debt.debts.leave;
    closed = a.assets.closed;
  };
  orders = a.orders;
  revenue = a.revenue;
  assets = a.assets;
  debt = a.debt;
}

-- the registers count the same closed months, and the same vouchers
pub record AreInStep (a : Inside) : Type 0 where
  pub closed : a.debt.debts.closed ≡ a.assets.closed
  pub vouchers : a.assets.vouchers ≡ a.orders.documents.vouchers
