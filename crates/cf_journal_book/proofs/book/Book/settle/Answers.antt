use Rattle.cf_journal_book.proofs.AllLines.{kept_lines, added_lines}
use Rattle.cf_journal_book.proofs.Replies.{settled_history, settled_cause, settled_quiet}
use Rattle.cf_journal_book.proofs.book.Book.settle.Goals as goal

pub settle-requires-clause-lent : goal.settle-requires-clause-lent
settle-requires-clause-lent g c line touched = c.self.invariant.whole line

pub invariant_of-self : goal.invariant_of-self
invariant_of-self g c =
    let b = c.self.inside in
    let s = c.settle in
    kept_lines b.archive.plan s.new.self.plan b.archive.entries s.new.self.entries b.lines s.new.lines s.ensures.plan c.in-Kept.ensures.grows s.ensures.rows s.ensures.stripes c.self.invariant

pub returns-in-Kept-clause-history : goal.returns-in-Kept-clause-history
returns-in-Kept-clause-history g c = rw (← c.self.view_is) (settled_history _ _ _ _ c.in-Kept.ensures.reply)

pub returns-in-Kept-clause-cause : goal.returns-in-Kept-clause-cause
returns-in-Kept-clause-cause g c = rw (← c.self.view_is) (settled_cause _ _ _ _ c.in-Kept.ensures.reply)

pub returns-in-Kept-clause-quiet : goal.returns-in-Kept-clause-quiet
returns-in-Kept-clause-quiet g c = rw (← c.self.view_is) (settled_quiet _ _ _ _ c.in-Kept.ensures.reply)

pub invariant_of-self-in-Added : goal.invariant_of-self-in-Added
invariant_of-self-in-Added g c =
    let b = c.self.inside in
    let s = c.settle in
    let grown = c.in-Added.ensures.grows in
    added_lines b.archive.plan s.new.self.plan b.archive.entries s.new.self.entries grown.0 b.lines s.new.lines c.apply_lines.new.lines c.in-Added.owed
    s.ensures.plan grown.1 s.ensures.rows s.ensures.stripes grown.3 c.apply_lines.ensures.applied c.apply_lines.ensures.stripes c.self.invariant

pub returns-in-Added-clause-history : goal.returns-in-Added-clause-history
returns-in-Added-clause-history g c = rw (← c.self.view_is) (settled_history _ _ _ _ c.in-Added.ensures.reply)

pub returns-in-Added-clause-quiet : goal.returns-in-Added-clause-quiet
returns-in-Added-clause-quiet g c = rw (← c.self.view_is) (settled_quiet _ _ _ _ c.in-Added.ensures.reply)
