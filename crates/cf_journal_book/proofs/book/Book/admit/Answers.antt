use Rattle.std.proofs.Common.{◌≡◌, ap, subst}
use Rattle.cf_calls.specs.declared.call.Call.TheVariants as call
use Rattle.cf_calls.specs.declared.reply.Posted.TheVariants as posted
use Rattle.cf_journal_book.specs.Archives.{Grows, given}
use Rattle.cf_journal_book.specs.DurableState.{state_of}
use Rattle.cf_journal_book.specs.Settling.{Settles}
use Rattle.cf_journal_book.specs.declared.archive.Settled.{Settled}
use Rattle.cf_journal_book.proofs.Admitting.{admits_added, admits_kept, kept_memory}
use Rattle.cf_journal_book.proofs.AllLines.{kept_lines, added_lines}
use Rattle.cf_journal_book.proofs.book.Book.admit.Goals as goal

pub admit-requires-clause-lent : goal.admit-requires-clause-lent
admit-requires-clause-lent g c line touched = c.self.invariant.whole line

-- the entry is refused
pub invariant_of-self : goal.invariant_of-self
invariant_of-self g c =
    let b = c.self.inside in
    let s = c.admit in
    kept_lines b.archive.plan s.new.self.plan b.archive.entries s.new.self.entries b.lines s.new.lines s.ensures.plan (ap (λ a. a.entries) c.in-Err.ensures.same) s.ensures.rows s.ensures.stripes c.self.invariant

-- nothing was added
pub invariant_of-self-in-Ok-Kept : goal.invariant_of-self-in-Ok-Kept
invariant_of-self-in-Ok-Kept g c =
    let b = c.self.inside in
    let s = c.admit in
    let stays = subst (λ (x : Settled). Grows b.archive.plan b.archive.entries s.new.self.entries (call.Change c.args.entry.change) s.new.lines x) c.in-Ok-Kept.field-0-is c.in-Ok-Kept.ensures.grows in
    kept_lines b.archive.plan s.new.self.plan b.archive.entries s.new.self.entries b.lines s.new.lines s.ensures.plan stays s.ensures.rows s.ensures.stripes c.self.invariant

-- the entry was added
pub invariant_of-self-in-Ok-Added : goal.invariant_of-self-in-Ok-Added
invariant_of-self-in-Ok-Added g c =
    let b = c.self.inside in
    let s = c.admit in
    let grown = subst (λ (x : Settled). Grows b.archive.plan b.archive.entries s.new.self.entries (call.Change c.args.entry.change) s.new.lines x) c.in-Ok-Added.field-0-is c.in-Ok-Added.ensures.grows in
    added_lines b.archive.plan s.new.self.plan b.archive.entries s.new.self.entries grown.0 b.lines s.new.lines c.apply_lines.new.lines c.in-Ok-Added.changes
    s.ensures.plan grown.1 s.ensures.rows s.ensures.stripes grown.3 c.apply_lines.ensures.applied c.apply_lines.ensures.stripes c.self.invariant

pub returns-in-Ok-Kept-clause-admits : goal.returns-in-Ok-Kept-clause-admits
returns-in-Ok-Kept-clause-admits g c =
    let b = c.self.inside in
    let s = c.admit in
    let stays = subst (λ (x : Settled). Grows b.archive.plan b.archive.entries s.new.self.entries (call.Change c.args.entry.change) s.new.lines x) c.in-Ok-Kept.field-0-is c.in-Ok-Kept.ensures.grows in
    let settles = subst (λ (x : Settled). Settles (state_of g.D.Disk.faults b.archive) (call.Change c.args.entry.change) (given x) (state_of g.D.Disk.faults s.new.self)) c.in-Ok-Kept.field-0-is c.in-Ok-Kept.ensures.reply in
    rw (← c.self.view_is, c.kept.ensures) (admits_kept _ _ c.in-Ok-Kept.posted _ c.requires c.in-Ok-Kept.ensures.taken stays settles)

pub returns-in-Ok-Kept-clause-memory : goal.returns-in-Ok-Kept-clause-memory
returns-in-Ok-Kept-clause-memory g c =
    let b = c.self.inside in
    let s = c.admit in
    let stays = subst (λ (x : Settled). Grows b.archive.plan b.archive.entries s.new.self.entries (call.Change c.args.entry.change) s.new.lines x) c.in-Ok-Kept.field-0-is c.in-Ok-Kept.ensures.grows in
    let settles = subst (λ (x : Settled). Settles (state_of g.D.Disk.faults b.archive) (call.Change c.args.entry.change) (given x) (state_of g.D.Disk.faults s.new.self)) c.in-Ok-Kept.field-0-is c.in-Ok-Kept.ensures.reply in
    let leaves = subst (λ (x : Settled). given x ≡ posted.NoMemory → s.new.self.disk ≡ b.archive.disk) c.in-Ok-Kept.field-0-is c.in-Ok-Kept.ensures.memory in
    rw (← c.self.view_is, c.kept.ensures) (kept_memory _ _ c.in-Ok-Kept.posted _ _ c.requires c.in-Ok-Kept.ensures.taken stays settles leaves)

pub returns-clause-admits : goal.returns-clause-admits
returns-clause-admits g c =
    let b = c.self.inside in
    let s = c.admit in
    let settles = subst (λ (x : Settled). Settles (state_of g.D.Disk.faults b.archive) (call.Change c.args.entry.change) (given x) (state_of g.D.Disk.faults s.new.self)) c.in-Ok-Added.field-0-is c.in-Ok-Added.ensures.reply in
    rw (← c.self.view_is) (admits_added _ _ c.in-Ok-Added.field-0-0 _ c.requires c.in-Ok-Added.ensures.taken settles)
