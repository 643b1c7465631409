-- The entry that stands last.
use Rattle.std.proofs.Common.{◌≡◌, ◌-◌, ◌∷◌, ◌++◌, [], List, length, get_or, arith, length-append, sym, ap, subst, ◌∙◌}
use Rattle.cf_base.proofs.Common.{get_or_push}
use Rattle.cf_journal_book.specs.Archives.{Grows, IsEntryOf, IsOwed, LendsCall}
use Rattle.cf_journal_book.specs.declared.archive.Settled.TheVariants.{Added}
use Rattle.cf_budget.specs.Tables.{Tables, has_line, SameStripes}
use Rattle.cf_budget.specs.declared.changes.LineChange.{LineChange}
use Rattle.cf_model.specs.Common.{Call, Act, Entry, Reply}
use Rattle.cf_calls.specs.declared.call.Call.TheVariants as call
use Rattle.cf_chart.specs.Common.{Plan}
use Rattle.cf_hall_names.specs.Lists.{entries_of}
use Rattle.cf_registers.specs.Lines.{LendsTouched}
use Rattle.cf_turns.specs.Lists.{TaggedEntry}
use Rattle.cf_hall.specs.HallState.{WasAdded}

pub last_of : {X : Type 0} (xs before : List X) (x d : X) → xs ≡ before ++ x ∷ [] → get_or xs (length xs - 1) d ≡ x
last_of xs before x d stands = rw stands (get_or_push before x d (length (before ++ x ∷ []) - 1) (omega (arith, length-append before (x ∷ []))))

-- tables that are lent for a call are lent for the entry that is made of it
lent_by : (plan : Plan) (lines : Tables) (c : Call) (e : Entry) → IsEntryOf c e → LendsCall plan (has_line lines) c → LendsTouched plan (has_line lines) e.change.act
lent_by plan lines (call.Change c) e is lent = subst (λ (a : Act). LendsTouched plan (has_line lines) a) (sym (ap (λ x. x.act) is)) lent
lent_by plan lines (call.Look l) e is lent = absurd is

-- what a settled call that was accepted added
pub added_by : (plan : Plan) (list : List TaggedEntry) (under : Plan) (before after : List Entry) (old new : Tables) (c : Call) (r : Reply) (owed : List LineChange) → under ≡ plan → before ≡ entries_of list →
    Grows under before after c new (Added r owed) → LendsCall plan (has_line old) c → SameStripes old new → WasAdded plan list after new owed
added_by plan list under before after old new c r owed same history grows lent stripes =
    let e = grows.0 in
    record {
      entry = e;
      last = grows.1 ∙ ap (λ (h : List Entry). h ++ e ∷ []) history;
      owed = subst (λ (h : List Entry). IsOwed plan h e new owed) history (subst (λ (p : Plan). IsOwed p before e new owed) same grows.3);
      lent = lent_by plan new c e grows.2 (λ line touched. stripes _ ∙ lent line touched);
    }
