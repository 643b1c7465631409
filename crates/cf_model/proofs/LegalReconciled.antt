-- Each legal history is lawful: its months close in order, and fund balances and the items come to
-- net position.
use Rattle.std.proofs.Common.{◌≡◌, ℕ, List, take, None, sym, subst, ap}
use Rattle.cf_calls.specs.declared.acts.Act.{Act}
use Rattle.cf_calls.specs.declared.acts.Act.TheVariants as act
use Rattle.cf_calls.specs.declared.entry.Drawn.{Drawn}
use Rattle.cf_calls.specs.declared.entry.Entry.{Entry}
use Rattle.cf_chart.specs.Common.{Plan}
use Rattle.cf_model.specs.Common.{ChangesAddUp, state_refusal, Reconciles, Registers, registers_of, draws, name_refusal, Adds, IsLegal}
use Rattle.cf_model.proofs.Accepted.{accepted}
use Rattle.cf_model.proofs.Lawful as lawful
use Rattle.cf_model.proofs.Lawful.{DrawsNext, IsLawful, IsWhole, lawful_first, lawful_push}
use Rattle.cf_model.proofs.Legal.{legal_induction, legal_take}
use Rattle.cf_model.proofs.Pushes.{documents_are}
use Rattle.cf_model.proofs.Reconciled.{changes_add_up}

draws_next : (s : Registers) (drawn : Drawn) (a : Act) → drawn ≡ draws s a → DrawsNext s drawn a
draws_next s drawn (act.Bill l) e = ap (λ (d : Drawn). d.number) e
draws_next s drawn _ e = tt

-- no rule that the reconciliation needs refuses an accepted entry
unbroken : (plan : Plan) (h : List Entry) (e : Entry) → Adds plan h e → lawful.IsUnbroken plan h e
unbroken plan h e adds =
    let a = accepted plan h e adds in
    record {
      day = adds.form.on;
      drawn = draws_next (registers_of plan h) e.drawn e.change.act (ap (λ (x : Entry). x.drawn) a.entry);
      names = subst (λ d. name_refusal plan d e.change.on e.change.act ≡ None) (sym (documents_are plan h)) a.names;
      register_names = a.register_names;
      period = a.period;
      levy = a.levied;
      states = subst (λ d. state_refusal plan d e.change.on e.change.act ≡ None) (sym (documents_are plan h)) a.states;
      assets = a.assets;
      order = a.order;
    }

pub is_lawful : (plan : Plan) (history : List Entry) → IsWhole plan → IsLegal plan history → IsLawful plan history
is_lawful plan history whole legal =
    legal_induction plan (IsLawful plan) (lawful_first plan whole) (λ h e is adds. lawful_push plan h e whole is (unbroken plan h e adds)) history legal

-- the theorem: after a legal history, in every year, fund balances and the items come to net
-- position ..
pub reconciles_always : (plan : Plan) (history : List Entry) → IsWhole plan → IsLegal plan history → Reconciles plan history
reconciles_always plan history whole legal = (is_lawful plan history whole legal).reconciled.reconciles

-- .. and the rows of changes to its change
pub changes_always : (plan : Plan) (history : List Entry) → IsWhole plan → IsLegal plan history → ChangesAddUp plan history
changes_always plan history whole legal = changes_add_up plan history (is_lawful plan history whole legal).reconciled

-- both at any place of it
pub reconciles_at_each : (plan : Plan) (history : List Entry) → IsWhole plan → IsLegal plan history → (n : ℕ) → Reconciles plan (take n history)
reconciles_at_each plan history whole legal n = reconciles_always plan (take n history) whole (legal_take plan history n legal)

pub changes_at_each : (plan : Plan) (history : List Entry) → IsWhole plan → IsLegal plan history → (n : ℕ) → ChangesAddUp plan (take n history)
changes_at_each plan history whole legal n = changes_always plan (take n history) whole (legal_take plan history n legal)
