-- The parties of one entry more.
use Rattle.std.proofs.Common.{◌≡◌, ℕ, ◌+◌, ◌<◌, List, [], ◌∷◌, ◌++◌, length, take, get_or, flat_map, sym, ap, ◌∙◌, append-nil}
use Rattle.cf_base.proofs.Common.{flat_map-append, take_more}
use Rattle.cf_model.specs.Common.{Act, Order, Voucher, Issue, Lease, Entry}
use Rattle.cf_calls.specs.declared.acts.Act.TheVariants.{Bill}
use Rattle.cf_books_ledger.specs.Parties.{PartyLists, bill_party, bond_party, order_party, parties_of, voucher_party, with_act}

one_more : (party : Act → List ℕ) (before : List Entry) (e : Entry) → flat_map (λ e. party e.change.act) before ++ party e.change.act ≡ flat_map (λ e. party e.change.act) (before ++ e ∷ [])
one_more party before e =
    ap (λ t. flat_map (λ e. party e.change.act) before ++ t) (sym (append-nil (party e.change.act))) ∙ sym (flat_map-append (λ e. party e.change.act) before (e ∷ []))

nil : (xs : List ℕ) → xs ≡ xs ++ []
nil xs = sym (append-nil xs)

-- each list with what the act enters
abbrev appended : PartyLists → Act → PartyLists
appended p a = record { orders = p.orders ++ order_party a; vouchers = p.vouchers ++ voucher_party a; bills = p.bills ++ bill_party a; bonds = p.bonds ++ bond_party a }

is_appended : (p : PartyLists) (a : Act) → with_act p a ≡ appended p a
is_appended p (Order o) = λ i. record { orders = p.orders ++ o.vendor ∷ []; vouchers = nil p.vouchers i; bills = nil p.bills i; bonds = nil p.bonds i }
is_appended p (Voucher v) = λ i. record { orders = nil p.orders i; vouchers = p.vouchers ++ v.vendor ∷ []; bills = nil p.bills i; bonds = nil p.bonds i }
is_appended p (Bill b) = λ i. record { orders = nil p.orders i; vouchers = nil p.vouchers i; bills = p.bills ++ b.payer ∷ []; bonds = nil p.bonds i }
is_appended p (Issue t) = λ i. record { orders = nil p.orders i; vouchers = nil p.vouchers i; bills = nil p.bills i; bonds = p.bonds ++ 0 ∷ [] }
is_appended p (Lease l) = λ i. record { orders = nil p.orders i; vouchers = nil p.vouchers i; bills = nil p.bills i; bonds = p.bonds ++ l.vendor ∷ [] }
is_appended p _ = λ i. record { orders = nil p.orders i; vouchers = nil p.vouchers i; bills = nil p.bills i; bonds = nil p.bonds i }

pub parties_push : (before : List Entry) (e : Entry) → with_act (parties_of before) e.change.act ≡ parties_of (before ++ e ∷ [])
parties_push before e =
    is_appended (parties_of before) e.change.act
    ∙ (λ i. record { orders = one_more order_party before e i; vouchers = one_more voucher_party before e i; bills = one_more bill_party before e i; bonds = one_more bond_party before e i })

pub parties_more : (entries : List Entry) (k : ℕ) (e : Entry) (old new : PartyLists) → k < length entries → get_or entries k e ≡ e → new ≡ with_act old e.change.act → old ≡ parties_of (take k entries) →
    new ≡ parties_of (take (k + 1) entries)
parties_more entries k e old new l at added so_far =
    added ∙ ap (λ (p : PartyLists). with_act p e.change.act) so_far ∙ parties_push (take k entries) e
    ∙ ap parties_of (ap (λ (x : Entry). take k entries ++ x ∷ []) (sym at) ∙ sym (take_more entries k e l))
