use Rattle.std.proofs.Common.{inl, sym, subst}
use Rattle.cf_model.specs.Common.{Call}
use Rattle.cf_calls.specs.declared.call.Call.TheVariants as calls
use Rattle.cf_office_history.specs.HistoryState.{HistoryState}
use Rattle.cf_office_looks.specs.Posts.{Posts}
use Rattle.cf_journal_book.specs.DurableState.{DurableState}
use Rattle.cf_journal_book.specs.Settling.{Settles}
use Rattle.cf_journal_book.specs.Snapshots.{doubt_of}
use Rattle.cf_journal_book.proofs.Recovering.{still_near}
use Rattle.cf_journal_book.proofs.Replies.{look_settles}
use Rattle.cf_journal_book.proofs.archive.Archive.settle.Goals as goal

pub new-history-requires : goal.new-history-requires
new-history-requires g c = rw (← c.self.view_is) at c.requires.tables

pub returns-in-Look-clause-reply : goal.returns-in-Look-clause-reply
returns-in-Look-clause-reply g c =
    let b = c.self.inside in
    let s : DurableState = record { plan = b.rest.plan; entries = b.rest.entries; doubt = doubt_of b.doubt; faults = g.D.Disk.faults b.disk } in
    let posts = subst (λ (x : HistoryState). Posts x.plan x.entries (calls.Look c.in-Look.look) x.entries c.look_reply.result) c.new-history.ensures c.look_reply.ensures in
    rw (← c.self.view_is) (subst (λ (x : Call). Settles s x c.look_reply.result s) (sym c.in-Look.is) (look_settles s c.in-Look.look c.look_reply.result posts))

pub returns-in-Look-clause-any_moment : goal.returns-in-Look-clause-any_moment
returns-in-Look-clause-any_moment g c =
    let b = c.self.inside in
    let d = g.D.Disk in
    rw (← c.self.view_is) (still_near d.tells d.is_image d.moment d.was_image g.met.D.Disk.only_now b.rest.plan b.rest.entries b.journal b.disk b.chart.value.items (doubt_of b.doubt) _ c.self.invariant (λ e is. inl is))
