-- The reply to an accepted change is brief: a voucher in form has at most 32 items, and so at most
-- 32 assets.
use Rattle.std.proofs.Common.{◌≡◌, ℕ, suc, ◌+◌, ◌≤◌, Bool, true, false, if◌then◌else◌, List, [], ◌∷◌, ◌++◌, length, Option, Some, None, subst, arith}
use Rattle.cf_model.specs.Common.{Day, Act, Voucher, Collect, PayDue, Donate, Dispose, Call, Change, Drawn, Entry, VoucherItem, Body, Verdict, Accept, Repeat, Refuse, bought, life_of, new_asset, purchase, Bond, Due, next_due, document_year, is_capital, bill_at, Registers, registers_of, bond_at, made_by, made_paid, made_payment, made_year, body_of, change_body, next_by, next_of, verdict_of}
use Rattle.cf_calls.specs.declared.acts.Act.TheVariants.{Asset}
use Rattle.cf_calls.specs.declared.call.Call.TheVariants as call
use Rattle.cf_calls.specs.Common.{IsActInForm, IsCallInForm, IsChangeInForm}
use Rattle.cf_chart.specs.Common.{Plan, object_at}
use Rattle.cf_json_replies.specs.Replies.{IsBriefBody, assets_of}
use Rattle.cf_model.specs.Receivables.{Bill}
use Rattle.cf_serve_laws.proofs.Accepting.{longer_not}

bought_few : (plan : Plan) (voucher : ℕ) (on : Day) (year number : ℕ) (items : List VoucherItem) → length (bought plan voucher on year number items) ≤ length items
bought_few plan voucher on year number [] = omega arith
bought_few plan voucher on year number (i ∷ items) = by_test (is_capital (object_at plan i.account.object)) (bought_few plan voucher on year (number + 1) items) (bought_few plan voucher on year number items)
  where
    by_test : (b : Bool) → length (bought plan voucher on year (number + 1) items) ≤ length items → length (bought plan voucher on year number items) ≤ length items →
        length (if b then new_asset plan (purchase voucher) on year number i.account.dept (life_of plan i.account.object) i.account.amount ∷ bought plan voucher on year (number + 1) items else bought plan voucher on year number items) ≤ suc (length items)
    by_test true more less = omega (arith, more)
    by_test false more less = omega (arith, less)

pub made_brief : (plan : Plan) (s : Registers) (on : Day) (d : Drawn) (act : Act) → IsActInForm on act → assets_of (made_by plan s on d act) ≤ 32
made_brief plan s on d (Voucher v) form =
    let few = bought_few plan d.number on (document_year plan on (Voucher v)) d.second v.items in
    omega (arith, few, form.count.to)
made_brief plan s on d (Collect c) form = by_bill (bill_at c.bill s.receivables.bills)
  where
    by_bill : (o : Option Bill) → assets_of (made_year plan on o) ≤ 32
    by_bill None = omega arith
    by_bill (Some b) = omega arith
made_brief plan s on d (PayDue p) form = by_bond (bond_at p.bond s.bonds)
  where
    by_due : (b : Bond) (o : Option Due) → assets_of (made_payment b o) ≤ 32
    by_due b None = omega arith
    by_due b (Some q) = omega arith

    by_bond : (o : Option Bond) → assets_of (made_paid o) ≤ 32
    by_bond None = omega arith
    by_bond (Some b) = by_due b (next_due b)
made_brief plan s on d (Asset (Donate g)) form = omega arith
made_brief plan s on d (Asset (Dispose g)) form = omega arith
made_brief plan s on d _ form = omega arith

change_brief : (plan : Plan) (h : List Entry) (c : Change) (v : Verdict) (body : Body) (e : Entry) → IsChangeInForm c → change_body plan h c v ≡ body → next_by v h c ≡ h ++ e ∷ [] → IsBriefBody body
change_brief plan h c (Accept d) body e form is next = subst IsBriefBody is (made_brief plan (registers_of plan h) c.on d c.act form.act)
change_brief plan h c (Repeat was) body e form is next = absurd (longer_not h e next)
change_brief plan h c (Refuse r) body e form is next = absurd (longer_not h e next)

pub accepted_brief : (plan : Plan) (h : List Entry) (c : Call) (body : Body) (e : Entry) → IsCallInForm c → body_of plan h c ≡ body → next_of plan h c ≡ h ++ e ∷ [] → IsBriefBody body
accepted_brief plan h (call.Change c) body e form is next = change_brief plan h c (verdict_of plan h c) body e form is next
accepted_brief plan h (call.Look l) body e form is next = absurd (longer_not h e next)
