use Rattle.std.proofs.Common.{◌≡◌, ◌⊎◌, suc, List, [], ◌∷◌, map, length, inl, inr, refl, sym, ap, ◌∙◌, arith}
use Rattle.cf_model.specs.Common.{Day, Act, Adopt, Amend, Transfer, Requisition, Withdraw, Order, ChangeOrder, CancelOrder, Voucher, VoidVoucher, Pay, Collect, Receive, WriteOff, Issue, PayDue, Leave, Interfund, Close, Lease, Documents, document_moves, spending_move, Registers, document_number, Spending, spendings_by}
use Rattle.cf_calls.specs.declared.acts.Act.TheVariants.{Bill, Asset}
use Rattle.cf_chart.specs.Common.{Plan}
use Rattle.cf_registers.specs.Moved.{act_moves}
use Rattle.cf_registers.proofs.moves.moves.Goals as goal

-- an act of this variant
abbrev Is : {A : Type 0} → (A → Act) → Act → Type 0
Is make act = (a : _) × (act ≡ make a)

-- an act that spends nothing beside documents
abbrev IsPlain : Act → Type 0
IsPlain act =
    Is Adopt act ⊎ (Is Amend act ⊎ (Is Transfer act ⊎ (Is Requisition act ⊎ (Is Withdraw act ⊎ (Is Order act ⊎ (Is ChangeOrder act ⊎ (Is CancelOrder act ⊎ (Is Voucher act ⊎ (Is VoidVoucher act
    ⊎ (Is Pay act ⊎ (Is Bill act ⊎ (Is Collect act ⊎ (Is Receive act ⊎ (Is WriteOff act ⊎ (Is Asset act ⊎ (Is Issue act ⊎ (Is Interfund act ⊎ Is Close act)))))))))))))))))

-- its moves are those of its documents
by_documents : (plan : Plan) (s : Registers) (on : Day) (act : Act) → IsPlain act → act_moves plan s on act ≡ document_moves plan s.documents (document_number s.documents act) on act
by_documents plan s on (PayDue d) is = grind arith
by_documents plan s on (Leave l) is = grind arith
by_documents plan s on (Lease l) is = grind arith
by_documents plan s on _ is = refl

same_length : (xs : List Spending) → length (map spending_move xs) ≡ length xs
same_length [] = refl
same_length (x ∷ xs) = ap suc (same_length xs)

-- .. and what is spent beside them
by_spendings : (plan : Plan) (s : Registers) (on : Day) (act : Act) → Is PayDue act ⊎ (Is Leave act ⊎ Is Lease act) → length (act_moves plan s on act) ≡ length (spendings_by plan s on act)
by_spendings plan s on act (inl due) =
    ap (λ (a : Act). length (act_moves plan s on a)) due.1 ∙ same_length (spendings_by plan s on (PayDue due.0)) ∙ ap (λ (a : Act). length (spendings_by plan s on a)) (sym due.1)
by_spendings plan s on act (inr (inr lease)) =
    ap (λ (a : Act). length (act_moves plan s on a)) lease.1 ∙ same_length (spendings_by plan s on (Lease lease.0)) ∙ ap (λ (a : Act). length (spendings_by plan s on a)) (sym lease.1)
by_spendings plan s on act (inr (inl leave)) =
    ap (λ (a : Act). length (act_moves plan s on a)) leave.1 ∙ same_length (spendings_by plan s on (Leave leave.0)) ∙ ap (λ (a : Act). length (spendings_by plan s on a)) (sym leave.1)

pub returns-in-Adopt : goal.returns-in-Adopt
returns-in-Adopt c =
    let plan = c.args.chart.now in
    let s = c.args.registers.now.registers in
    let act = c.args.act.now in
    record {
      value = λ on.
          c.moves.ensures.value plan (document_number s.documents act) on
          ∙ ap (λ (d : Documents). length (document_moves plan d (document_number s.documents act) on act)) c.orders.ensures
          ∙ ap length (sym (by_documents plan s on act c.in-Adopt.is));
      few = c.moves.ensures.few;
    }

pub returns-in-PayDue-clause-value : goal.returns-in-PayDue-clause-value
returns-in-PayDue-clause-value c on = c.spendings.ensures.value on ∙ sym (by_spendings c.args.chart.now c.args.registers.now.registers on c.args.act.now c.in-PayDue.is)
