-- The last rules: those of the registers, then room, then cash.
use Rattle.std.proofs.Common.{◌≡◌, List, [], ◌∷◌, Option, Some, None, refl, sym, ap, subst, ◌∙◌}
use Rattle.cf_model.specs.Common.{Change, Entry, Refusal, cash_refusal, document_rules, document_refusal, Documents, documents_of, receivable_refusal, asset_refusal, debt_refusal, registers_of, entry_with, or_else, first_of, exceed_refusal, last_rules}
use Rattle.cf_chart.specs.Common.{Plan}
use Rattle.cf_model.proofs.Common.{AllNone, first_of-append, first_of_none, documents_are}
use Rattle.cf_registers.specs.RegistersState.{register_rules}

either : (w r a d x : Option Refusal) → or_else w (or_else r (or_else a (or_else d x))) ≡ or_else (or_else w (or_else r (or_else a (or_else d None)))) x
either (Some w) r a d x = refl
either None (Some r) a d x = refl
either None None (Some a) d x = refl
either None None None (Some d) x = refl
either None None None None x = refl

or_none : (r : Option Refusal) → r ≡ or_else r None
or_none None = refl
or_none (Some x) = refl

module _ (plan : Plan) (h : List Entry) (c : Change) where
  abbrev by_registers : Option Refusal
  by_registers = first_of (register_rules plan (registers_of plan h) c.on c.desk c.act)

  abbrev by_room : Option Refusal
  by_room = exceed_refusal plan h (entry_with (registers_of plan h) c)

  abbrev by_cash : Option Refusal
  by_cash = or_else (cash_refusal plan h c.act) None

  split : first_of (last_rules plan h c) ≡ or_else by_registers (or_else by_room by_cash)
  split =
      let s = registers_of plan h in
      let r = receivable_refusal s.receivables c.act in
      let a = asset_refusal s c.on c.act in
      let d = debt_refusal plan s c.on c.act in
      first_of-append (document_rules plan (documents_of plan h) c.on c.desk c.act) (r ∷ a ∷ d ∷ by_room ∷ cash_refusal plan h c.act ∷ [])
      ∙ either (document_refusal plan (documents_of plan h) c.on c.desk c.act) r a d (or_else by_room by_cash)
      ∙ ap (λ (ds : Documents). or_else (or_else (document_refusal plan ds c.on c.desk c.act) (or_else r (or_else a (or_else d None)))) (or_else by_room by_cash)) (sym (documents_are plan h))

  pub at_registers : (x : Refusal) → by_registers ≡ Some x → Some x ≡ first_of (last_rules plan h c)
  at_registers x some = sym (split ∙ ap (λ (o : Option Refusal). or_else o (or_else by_room by_cash)) some)

  pub at_room : (x : Refusal) → by_registers ≡ None → by_room ≡ Some x → Some x ≡ first_of (last_rules plan h c)
  at_room x none some = sym (split ∙ (λ i. or_else (none i) (or_else (some i) by_cash)))

  pub at_cash : by_registers ≡ None → by_room ≡ None → cash_refusal plan h c.act ≡ first_of (last_rules plan h c)
  at_cash none none' =
      or_none (cash_refusal plan h c.act) ∙ sym (split ∙ (λ i. or_else (none i) (or_else (none' i) by_cash)))

  pub documents_allow : by_registers ≡ None → document_refusal plan (documents_of plan h) c.on c.desk c.act ≡ None
  documents_allow none =
      let all : AllNone (register_rules plan (registers_of plan h) c.on c.desk c.act) = first_of_none (register_rules plan (registers_of plan h) c.on c.desk c.act) none in
      subst (λ (ds : Documents). document_refusal plan ds c.on c.desk c.act ≡ None) (documents_are plan h) all.0
