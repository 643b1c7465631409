-- The parties as contracts see them.
use Rattle.cf_books_ledger.specs.declared.parties.Parties.TheInside.{Inside}
use Rattle.cf_books_ledger.specs.Parties.{PartyLists}

abbrev pub party_lists : Inside → PartyLists
party_lists p = record {
  orders = p.orders.items;
  vouchers = p.vouchers.items;
  bills = p.bills.items;
  bonds = p.bonds.items;
}
