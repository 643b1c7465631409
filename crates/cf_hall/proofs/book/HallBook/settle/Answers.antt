use Rattle.std.proofs.Common.{◌≡◌, ℕ, ◌+◌, ◌≤◌, ◌∷◌, ◌++◌, [], List, Option, None, length, sym, ap, subst, ◌∙◌, IfSome, arith}
use Rattle.cf_base.proofs.Common.{append-nil}
use Rattle.cf_budget.specs.declared.changes.LineChange.{LineChange}
use Rattle.cf_budget.specs.Tables.{Tables, has_stripe}
use Rattle.cf_model.specs.Common.{Call, Entry}
use Rattle.cf_calls.specs.declared.reply.Posted.TheVariants as posted
use Rattle.cf_chart.specs.Common.{Plan}
use Rattle.cf_journal_book.specs.DurableState.{state_of}
use Rattle.cf_hall_names.specs.Closing.{RoseBy}
use Rattle.cf_hall_names.specs.Lists.{calls_in, entries_of}
use Rattle.cf_hall_names.specs.Shares.{TotalsState}
use Rattle.cf_hall_names.proofs.Entries.{entries_length}
use Rattle.cf_registers.specs.Moved.{AreTablesOf}
use Rattle.cf_turns.specs.Lists.{TaggedCall, TaggedEntry}
use Rattle.cf_turns.specs.States.{RecorderState}
use Rattle.cf_hall.specs.Fronts.{IsKeptSince, IsUnacknowledged}
use Rattle.cf_hall.specs.Passes.{Sights, failed_after, faults_by}
use Rattle.cf_hall.specs.TakenState.{AreTakenStripes, AllSeen}
use Rattle.cf_hall.proofs.Fronts.{doubt_since, since_on}
use Rattle.cf_hall.proofs.Lasting.{added_by}
use Rattle.cf_hall.proofs.Saying.{noted_by, risen_by, quiet_by, clear_by, said_at, told_kept, told_added}
use Rattle.cf_hall.proofs.Standing.{kept}
use Rattle.cf_hall.proofs.book.HallBook.settle.Goals as goal

pub settle-requires-clause-tables : goal.settle-requires-clause-tables
settle-requires-clause-tables g c =
    let plan = g.N.City.plan in
    let b = c.self.inside in
    let lines = c.taken.inside.lines in
    let tables : AreTablesOf plan (entries_of b.recording.list) lines = rw (← c.taken.view_is) at c.catch_up.ensures.tables in
    subst (λ (p : Plan). AreTablesOf p b.archive.entries lines) (sym c.self.invariant.plan)
    (subst (λ (h : List Entry). AreTablesOf plan h lines) (sym c.self.invariant.list) tables)

-- ---- the history stays

pub invariant_of-self : goal.invariant_of-self
invariant_of-self g c =
    let d = g.D.Disk in
    let b = c.self.inside in
    let list : c.see.new.recording.list ≡ b.recording.list = ap (λ (r : RecorderState). r.list) c.see.ensures.recorder ∙ ap (λ (r : RecorderState). r.list) c.catch_up.ensures.recorder in
    let faulted : c.see.new.totals.faulted ≡ b.totals.faulted + faults_by c.in-Kept.answer = ap (λ (t : TotalsState). t.faulted) c.see.ensures.totals in
    let in_doubt = g.N.City.doubt in
    let call = c.args.call in
    let number = c.catch_up.new.pass.number in
    let was = state_of d.faults b.archive in
    let now = state_of d.faults c.settle.new.self in
    let failed : c.see.new.recording.failed ≡ failed_after b.recording.failed call number c.in-Kept.answer =
    ap (λ (r : RecorderState). r.failed) c.see.ensures.recorder ∙ ap (λ (x : Call). failed_after c.catch_up.new.self.failed x number c.in-Kept.answer) c.of-said.ensures
    ∙ ap (λ (r : RecorderState). failed_after r.failed call number c.in-Kept.answer) c.catch_up.ensures.recorder in
    let long : g.N.City.first ≤ length b.archive.entries = omega (arith, c.self.invariant.from, ap length c.self.invariant.list, entries_length b.recording.list) in
    record {
      plan = c.settle.ensures.plan ∙ c.self.invariant.plan;
      list = c.in-Kept.ensures.grows ∙ c.self.invariant.list ∙ ap entries_of (sym list);
      from = omega (arith, c.self.invariant.from, ap length list);
      accepted = ap (λ (t : TotalsState). t.accepted) c.see.ensures.totals ∙ c.self.invariant.accepted ∙ ap length (sym list);
      faulted =
          subst (λ (n : ℕ). RoseBy n g.N.City.risen (d.faults c.settle.new.self.disk)) (sym faulted)
          (risen_by (state_of d.faults b.archive) c.args.call c.in-Kept.answer (state_of d.faults c.settle.new.self) b.totals.faulted g.N.City.risen c.in-Kept.ensures.reply c.self.invariant.faulted);
      quiet = λ is. quiet_by (state_of d.faults b.archive) c.args.call c.in-Kept.answer (state_of d.faults c.settle.new.self) b.totals.faulted g.N.City.risen c.in-Kept.ensures.reply c.self.invariant.quiet (sym faulted ∙ is);
      clear = λ is. clear_by (state_of d.faults b.archive) c.args.call c.in-Kept.answer (state_of d.faults c.settle.new.self) b.totals.faulted g.N.City.doubt c.in-Kept.ensures.reply c.self.invariant.clear (sym faulted ∙ is);
      none_ended = ap (λ (r : RecorderState). r.ended) c.see.ensures.recorder ∙ ap (λ (r : RecorderState). r.ended) c.catch_up.ensures.recorder ∙ c.self.invariant.none_ended;
      failed = faulted ∙ noted_by b.recording.failed call number c.in-Kept.answer b.totals.faulted c.self.invariant.failed ∙ ap length (sym failed);
      unacknowledged =
          subst (λ (p : Plan). IfSome c.settle.new.self.doubt (IsUnacknowledged p in_doubt (calls_in c.see.new.recording.failed) c.settle.new.self.entries)) (sym c.settle.ensures.plan)
          (subst (λ (l : List TaggedCall). IfSome c.settle.new.self.doubt (IsUnacknowledged b.archive.plan in_doubt (calls_in l) c.settle.new.self.entries)) (sym failed)
          (doubt_since d.moment d.was_image g.N.City.first in_doubt was call c.in-Kept.answer now b.recording.failed number c.in-Kept.ensures.reply c.self.invariant.unacknowledged));
      since = λ tells.
          subst (λ (p : Plan). IsKeptSince d.moment d.was_image p g.N.City.first in_doubt (calls_in c.see.new.recording.failed) c.settle.new.self.entries g.N.City.begun c.settle.new.self.disk) (sym c.settle.ensures.plan)
          (subst (λ (l : List TaggedCall). IsKeptSince d.moment d.was_image b.archive.plan g.N.City.first in_doubt (calls_in l) c.settle.new.self.entries g.N.City.begun c.settle.new.self.disk) (sym failed)
          (since_on d.moment d.was_image g.N.City.first in_doubt was call c.in-Kept.answer now b.recording.failed number c.in-Kept.ensures.reply c.self.invariant.unacknowledged
          [] g.N.City.begun b.archive.disk c.settle.new.self.disk long (c.in-Kept.ensures.grows ∙ sym (append-nil b.archive.entries)) c.in-Kept.ensures.memory (c.self.invariant.since tells)
          (c.settle.ensures.any_moment tells)));
    }

pub invariant_of-taken : goal.invariant_of-taken
invariant_of-taken g c =
    let table = g.N.City.table in
    let plan = g.N.City.plan in
    let t = c.taken.inside in
    let none : t.owed ≡ None = rw (← c.taken.view_is) at c.catch_up.ensures.owes in
    let was = subst (λ (o : Option (List LineChange)). AreTakenStripes table plan t.lines o t.ties) none c.taken.invariant in
    subst (λ (o : Option (List LineChange)). AreTakenStripes table plan c.settle.new.lines o t.ties) (sym none)
    (kept table plan t.lines c.settle.new.lines t.ties c.settle.ensures.rows c.settle.ensures.stripes was)

pub returns-in-Kept-clause-taken : goal.returns-in-Kept-clause-taken
returns-in-Kept-clause-taken g c =
    let b = c.self.inside in
    let t = c.taken.inside in
    let list : c.see.new.recording.list ≡ b.recording.list = ap (λ (r : RecorderState). r.list) c.see.ensures.recorder ∙ ap (λ (r : RecorderState). r.list) c.catch_up.ensures.recorder in
    let seen : AllSeen b.recording.list t.ties = rw (← c.taken.view_is) at c.catch_up.ensures.seen in
    subst (λ (l : List TaggedEntry). AllSeen l t.ties) (sym list) seen

pub returns-in-Kept-clause-stripes : goal.returns-in-Kept-clause-stripes
returns-in-Kept-clause-stripes g c =
    let lines : c.taken.inside.lines ≡ c.args.taken.now.lines = rw (← c.taken.view_is) at c.catch_up.ensures.lines in
    λ k. c.settle.ensures.stripes k ∙ ap (λ (t : Tables). has_stripe t k) lines

pub returns-in-Kept-clause-pass : goal.returns-in-Kept-clause-pass
returns-in-Kept-clause-pass g c =
    let d = g.D.Disk in
    let plan = g.N.City.plan in
    let b = c.self.inside in
    let list = b.recording.list in
    let now = c.catch_up.new.pass in
    let caught : c.catch_up.new.self.list ≡ list = ap (λ (r : RecorderState). r.list) c.catch_up.ensures.recorder in
    let said = said_at plan (entries_of list) (entries_of list) c.args.call c.in-Kept.answer (state_of d.faults b.archive) (state_of d.faults c.settle.new.self)
    c.self.invariant.plan c.self.invariant.list (c.in-Kept.ensures.grows ∙ c.self.invariant.list) c.in-Kept.ensures.reply in
    let sights = subst (λ (l : List TaggedEntry). Sights now l c.args.call c.in-Kept.answer c.see.new.pass) caught
    (subst (λ (x : Call). Sights now c.catch_up.new.self.list x c.in-Kept.answer c.see.new.pass) c.of-said.ensures c.see.ensures.pass) in
    rw (← c.pass.view_is) (told_kept plan c.pass.inside.pass now c.see.new.pass list c.args.call c.catch_up.ensures.pass c.in-Kept.answer said c.catch_up.ensures.legal sights c.see.ensures.seen)

-- ---- an entry was added

pub invariant_of-taken-in-Added : goal.invariant_of-taken-in-Added
invariant_of-taken-in-Added g c =
    let table = g.N.City.table in
    let plan = g.N.City.plan in
    let t = c.taken.inside in
    let none : t.owed ≡ None = rw (← c.taken.view_is) at c.catch_up.ensures.owes in
    let was = subst (λ (o : Option (List LineChange)). AreTakenStripes table plan t.lines o t.ties) none c.taken.invariant in
    subst (λ (o : Option (List LineChange)). AreTakenStripes table plan c.settle.new.lines o t.ties) (sym none)
    (kept table plan t.lines c.settle.new.lines t.ties c.settle.ensures.rows c.settle.ensures.stripes was)

pub add_last-requires-clause-seen : goal.add_last-requires-clause-seen
add_last-requires-clause-seen g c =
    let b = c.self.inside in
    let t = c.taken.inside in
    let caught : c.catch_up.new.self.list ≡ b.recording.list = ap (λ (r : RecorderState). r.list) c.catch_up.ensures.recorder in
    let seen : AllSeen b.recording.list t.ties = rw (← c.taken.view_is) at c.catch_up.ensures.seen in
    subst (λ (l : List TaggedEntry). AllSeen l t.ties) (sym caught) seen

pub invariant_of-self-in-Added : goal.invariant_of-self-in-Added
invariant_of-self-in-Added g c =
    let d = g.D.Disk in
    let b = c.self.inside in
    let caught : c.catch_up.new.self.list ≡ b.recording.list = ap (λ (r : RecorderState). r.list) c.catch_up.ensures.recorder in
    let accepted : c.add_last.new.totals.accepted ≡ b.totals.accepted + 1 = ap (λ (t : TotalsState). t.accepted) c.add_last.ensures.totals in
    let faulted : c.add_last.new.totals.faulted ≡ b.totals.faulted = ap (λ (t : TotalsState). t.faulted) c.add_last.ensures.totals in
    let none : b.totals.faulted + 0 ≡ b.totals.faulted = omega arith in
    let in_doubt = g.N.City.doubt in
    let call = c.args.call in
    let number = c.catch_up.new.pass.number in
    let given = posted.Reply c.in-Added.reply in
    let was = state_of d.faults b.archive in
    let now = state_of d.faults c.settle.new.self in
    let failed : c.add_last.new.recording.failed ≡ b.recording.failed = c.add_last.ensures.recorder.failed ∙ ap (λ (r : RecorderState). r.failed) c.catch_up.ensures.recorder in
    let long : g.N.City.first ≤ length b.archive.entries = omega (arith, c.self.invariant.from, ap length c.self.invariant.list, entries_length b.recording.list) in
    record {
      plan = c.settle.ensures.plan ∙ c.self.invariant.plan;
      list = sym c.add_last.ensures.list;
      from = omega (arith, c.self.invariant.from, c.add_last.ensures.counted, ap length caught);
      accepted = omega (arith, accepted, c.self.invariant.accepted, c.add_last.ensures.counted, ap length caught);
      faulted =
          subst (λ (n : ℕ). RoseBy n g.N.City.risen (d.faults c.settle.new.self.disk)) (none ∙ sym faulted)
          (risen_by (state_of d.faults b.archive) c.args.call (posted.Reply c.in-Added.reply) (state_of d.faults c.settle.new.self) b.totals.faulted g.N.City.risen c.in-Added.ensures.reply c.self.invariant.faulted);
      quiet = λ is. quiet_by (state_of d.faults b.archive) c.args.call (posted.Reply c.in-Added.reply) (state_of d.faults c.settle.new.self) b.totals.faulted g.N.City.risen c.in-Added.ensures.reply c.self.invariant.quiet (none ∙ sym faulted ∙ is);
      clear = λ is. clear_by (state_of d.faults b.archive) c.args.call (posted.Reply c.in-Added.reply) (state_of d.faults c.settle.new.self) b.totals.faulted g.N.City.doubt c.in-Added.ensures.reply c.self.invariant.clear (none ∙ sym faulted ∙ is);
      none_ended = c.add_last.ensures.recorder.ended ∙ ap (λ (r : RecorderState). r.ended) c.catch_up.ensures.recorder ∙ c.self.invariant.none_ended;
      failed = faulted ∙ c.self.invariant.failed ∙ ap length (sym failed);
      unacknowledged =
          subst (λ (p : Plan). IfSome c.settle.new.self.doubt (IsUnacknowledged p in_doubt (calls_in c.add_last.new.recording.failed) c.settle.new.self.entries)) (sym c.settle.ensures.plan)
          (subst (λ (l : List TaggedCall). IfSome c.settle.new.self.doubt (IsUnacknowledged b.archive.plan in_doubt (calls_in l) c.settle.new.self.entries)) (sym failed)
          (doubt_since d.moment d.was_image g.N.City.first in_doubt was call given now b.recording.failed number c.in-Added.ensures.reply c.self.invariant.unacknowledged));
      since = λ tells.
          subst (λ (p : Plan). IsKeptSince d.moment d.was_image p g.N.City.first in_doubt (calls_in c.add_last.new.recording.failed) c.settle.new.self.entries g.N.City.begun c.settle.new.self.disk) (sym c.settle.ensures.plan)
          (subst (λ (l : List TaggedCall). IsKeptSince d.moment d.was_image b.archive.plan g.N.City.first in_doubt (calls_in l) c.settle.new.self.entries g.N.City.begun c.settle.new.self.disk) (sym failed)
          (since_on d.moment d.was_image g.N.City.first in_doubt was call given now b.recording.failed number c.in-Added.ensures.reply c.self.invariant.unacknowledged
          (c.in-Added.ensures.grows.0 ∷ []) g.N.City.begun b.archive.disk c.settle.new.self.disk long c.in-Added.ensures.grows.1 c.in-Added.ensures.memory (c.self.invariant.since tells)
          (c.settle.ensures.any_moment tells)));
    }

pub returns-in-Added-clause-stripes : goal.returns-in-Added-clause-stripes
returns-in-Added-clause-stripes g c =
    let lines : c.taken.inside.lines ≡ c.args.taken.now.lines = rw (← c.taken.view_is) at c.catch_up.ensures.lines in
    λ k. ap (λ (t : Tables). has_stripe t k) c.add_last.ensures.lines ∙ c.settle.ensures.stripes k ∙ ap (λ (t : Tables). has_stripe t k) lines

pub returns-in-Added-clause-pass : goal.returns-in-Added-clause-pass
returns-in-Added-clause-pass g c =
    let d = g.D.Disk in
    let plan = g.N.City.plan in
    let b = c.self.inside in
    let list = b.recording.list in
    let now = c.catch_up.new.pass in
    let caught : c.catch_up.new.self.list ≡ list = ap (λ (r : RecorderState). r.list) c.catch_up.ensures.recorder in
    let said = said_at plan (entries_of list) (entries_of c.add_last.new.recording.list) c.args.call (posted.Reply c.in-Added.reply) (state_of d.faults b.archive) (state_of d.faults c.settle.new.self)
    c.self.invariant.plan c.self.invariant.list (sym c.add_last.ensures.list) c.in-Added.ensures.reply in
    let e : Entry = c.add_last.ensures.grows.0 in
    let grows : c.add_last.new.recording.list ≡ list ++ (e, now.number) ∷ [] = c.add_last.ensures.grows.1 ∙ ap (λ (l : List TaggedEntry). l ++ (e, now.number) ∷ []) caught in
    rw (← c.pass.view_is) (told_added plan c.pass.inside.pass now c.add_last.new.pass list c.args.call c.catch_up.ensures.pass c.add_last.new.recording.list e c.in-Added.reply grows said c.add_last.ensures.pass)

pub add_last-requires-clause-added : goal.add_last-requires-clause-added
add_last-requires-clause-added g c =
    let plan = g.N.City.plan in
    let b = c.self.inside in
    let list = c.catch_up.new.self.list in
    let history : b.archive.entries ≡ entries_of list = c.self.invariant.list ∙ ap entries_of (sym (ap (λ (r : RecorderState). r.list) c.catch_up.ensures.recorder)) in
    let none : c.taken.inside.lines ≡ c.args.taken.now.lines = rw (← c.taken.view_is) at c.catch_up.ensures.lines in
    added_by plan list b.archive.plan b.archive.entries c.settle.new.self.entries c.args.taken.now.lines c.settle.new.lines c.args.call c.in-Added.reply c.in-Added.owed
    c.self.invariant.plan history c.in-Added.ensures.grows c.requires.lent (λ k. c.settle.ensures.stripes k ∙ ap (λ (t : Tables). has_stripe t k) none)
