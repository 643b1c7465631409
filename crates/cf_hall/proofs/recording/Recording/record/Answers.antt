use Rattle.std.proofs.Common.{◌≡◌, ℕ, ◌<◌, ◌∷◌, ◌++◌, [], if◌then◌else◌, List, Option, None, sym, ap, subst, ◌∙◌, arith}
use Rattle.cf_budget.specs.declared.changes.LineChange.{LineChange}
use Rattle.cf_budget.specs.Tables.{has_line}
use Rattle.cf_chart.specs.Common.{Plan}
use Rattle.cf_model.specs.Common.{Adds, IsLegal, touches}
use Rattle.cf_model.proofs.Common.{accepted_fits, legal_push}
use Rattle.cf_hall_names.specs.Following.{AreCounts}
use Rattle.cf_hall_names.specs.Lists.{entries_of, total_at}
use Rattle.cf_hall_names.proofs.Entries.{entries_length, entries_push}
use Rattle.cf_registers.specs.Lines.{LendsTouched}
use Rattle.cf_turns.specs.Lists.{TaggedEntry}
use Rattle.cf_turns.specs.States.{RecorderState}
use Rattle.cf_journal_book.specs.Archives.{IsOwed}
use Rattle.cf_hall.specs.TakenState.{AreTakenStripes, AllSeen}
use Rattle.cf_hall.proofs.Standing.{owing, taken_own, taken_more}
use Rattle.cf_hall.proofs.recording.Recording.record.Goals as goal

pub record-requires-clause-few : goal.record-requires-clause-few
record-requires-clause-few g c =
    let list = c.self.inside.recorder.list in
    let adds : Adds g.N.City.plan (entries_of list) c.args.entry.now = rw (← c.self.view_is) at c.requires.owed.adds in
    omega (arith, accepted_fits g.N.City.plan (entries_of list) c.args.entry.now adds, entries_length list)

pub follow_all-requires-clause-ties : goal.follow_all-requires-clause-ties
follow_all-requires-clause-ties g c =
    taken_own g.N.City.table g.N.City.plan c.taken.inside.lines c.taken.inside.owed c.taken.inside.ties c.taken.invariant

pub follow_all-requires-clause-away : goal.follow_all-requires-clause-away
follow_all-requires-clause-away g c =
    let table = g.N.City.table in
    let plan = g.N.City.plan in
    let t = c.taken.inside in
    let act = c.args.entry.now.change.act in
    let none : t.owed ≡ None = rw (← c.taken.view_is) at c.requires.owes in
    let was = subst (λ (o : Option (List LineChange)). AreTakenStripes table plan t.lines o t.ties) none c.taken.invariant in
    let lent : LendsTouched plan (has_line t.lines) act = rw (← c.taken.view_is) at c.requires.lent in
    let counted : (k : ℕ) → k < 8 → total_at c.touched-more.result k ≡ (let n : ℕ = if touches plan k act then 1 else 0 in n) =
    subst (λ (p : Plan). (k : ℕ) → k < 8 → total_at c.touched-more.result k ≡ (let n : ℕ = if touches p k act then 1 else 0 in n)) c.requires.chart c.touched-more.ensures in
    taken_more table plan t.lines t.ties act c.touched-more.result was lent counted

pub invariant_of-self : goal.invariant_of-self
invariant_of-self g c =
    let plan = g.N.City.plan in
    let list = c.self.inside.recorder.list in
    let e = c.args.entry.now in
    let n = c.args.pass.now.number in
    let adds : Adds plan (entries_of list) e = rw (← c.self.view_is) at c.requires.owed.adds in
    let recorded : c.record.new.self.list ≡ list ++ (e, n) ∷ [] = ap (λ (r : RecorderState). r.list) c.record.ensures.recorder in
    let same : c.follow_all.new.recorder.list ≡ c.record.new.self.list = ap (λ (r : RecorderState). r.list) c.follow_all.ensures.recorder in
    let entries : entries_of list ++ e ∷ [] ≡ entries_of c.follow_all.new.recorder.list = sym (entries_push list e n) ∙ ap entries_of (sym (same ∙ recorded)) in
    record {
      own = ap (λ (r : RecorderState). r.table) c.follow_all.ensures.recorder ∙ ap (λ (r : RecorderState). r.table) c.record.ensures.recorder ∙ c.self.invariant.own;
      legal = subst (IsLegal plan) entries (legal_push plan (entries_of list) e c.self.invariant.legal adds);
      counts = subst (λ (l : List TaggedEntry). AreCounts plan l c.follow_all.new.counts) (sym same) c.follow_all.ensures.totals;
    }

pub invariant_of-taken : goal.invariant_of-taken
invariant_of-taken g c =
    let table = g.N.City.table in
    let plan = g.N.City.plan in
    let t = c.taken.inside in
    let list = c.self.inside.recorder.list in
    let e = c.args.entry.now in
    let n = c.args.pass.now.number in
    let none : t.owed ≡ None = rw (← c.taken.view_is) at c.requires.owes in
    let was = subst (λ (o : Option (List LineChange)). AreTakenStripes table plan t.lines o t.ties) none c.taken.invariant in
    let seen : AllSeen list t.ties = rw (← c.self.view_is) at (rw (← c.taken.view_is) at c.requires.seen) in
    let owed : IsOwed plan (entries_of list) e t.lines c.args.owed = rw (← c.self.view_is) at (rw (← c.taken.view_is) at c.requires.owed) in
    let recorded : c.record.new.self.list ≡ list ++ (e, n) ∷ [] = ap (λ (r : RecorderState). r.list) c.record.ensures.recorder in
    (owing table plan t.lines list c.record.new.self.list e n c.touched-more.result c.args.owed t.ties c.follow_all.new.ties c.self.invariant.legal owed recorded was seen c.follow_all.ensures.ties).0
