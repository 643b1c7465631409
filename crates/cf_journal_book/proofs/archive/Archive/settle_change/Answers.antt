use Rattle.std.proofs.Common.{◌≡◌, inl, length, Some, subst}
use Rattle.cf_model.specs.Common.{Done, Refused, Repeat, Refuse, made_at, verdict_of}
use Rattle.cf_calls.specs.declared.reply.Posted.TheVariants as posted
use Rattle.cf_office_history.specs.HistoryState.{HistoryState}
use Rattle.cf_journal_book.specs.Snapshots.{doubt_of}
use Rattle.cf_journal_book.proofs.Recovering.{still_near}
use Rattle.cf_journal_book.proofs.Replies.{repeat_answers, refusal_answers}
use Rattle.cf_journal_book.proofs.archive.Archive.settle_change.Goals as goal

pub new-history-requires : goal.new-history-requires
new-history-requires g c = rw (← c.self.view_is) at c.requires.tables

pub returns-in-Repeat-clause-reply : goal.returns-in-Repeat-clause-reply
returns-in-Repeat-clause-reply g c =
    let b = c.self.inside in
    let was = c.in-Repeat.was in
    let says = subst (λ (x : HistoryState). Repeat was ≡ verdict_of x.plan x.entries c.args.change) c.new-history.ensures c.in-Repeat.ensures in
    let gives = subst (λ (x : HistoryState). c.repeat_reply.result ≡ posted.Reply (record { at = length x.entries; body = Done (made_at x.plan x.entries was) (Some was) })) c.new-history.ensures c.repeat_reply.ensures in
    rw (← c.self.view_is) (repeat_answers (record { plan = b.rest.plan; entries = b.rest.entries; doubt = doubt_of b.doubt; faults = g.D.Disk.faults b.disk }) c.args.change was c.repeat_reply.result says gives)

pub returns-in-Repeat-clause-any_moment : goal.returns-in-Repeat-clause-any_moment
returns-in-Repeat-clause-any_moment g c =
    let b = c.self.inside in
    let d = g.D.Disk in
    rw (← c.self.view_is) (still_near d.tells d.is_image d.moment d.was_image g.met.D.Disk.only_now b.rest.plan b.rest.entries b.journal b.disk b.chart.value.items (doubt_of b.doubt) _ c.self.invariant (λ e is. inl is))

pub returns-in-Refuse-clause-reply : goal.returns-in-Refuse-clause-reply
returns-in-Refuse-clause-reply g c =
    let b = c.self.inside in
    let refusal = c.in-Refuse.refusal in
    let says = subst (λ (x : HistoryState). Refuse refusal ≡ verdict_of x.plan x.entries c.args.change) c.new-history.ensures c.in-Refuse.ensures in
    let gives = subst (λ (x : HistoryState). c.refusal_reply.result ≡ posted.Reply (record { at = length x.entries; body = Refused refusal })) c.new-history.ensures c.refusal_reply.ensures in
    rw (← c.self.view_is) (refusal_answers (record { plan = b.rest.plan; entries = b.rest.entries; doubt = doubt_of b.doubt; faults = g.D.Disk.faults b.disk }) c.args.change refusal c.refusal_reply.result says gives)

pub returns-in-Refuse-clause-any_moment : goal.returns-in-Refuse-clause-any_moment
returns-in-Refuse-clause-any_moment g c =
    let b = c.self.inside in
    let d = g.D.Disk in
    rw (← c.self.view_is) (still_near d.tells d.is_image d.moment d.was_image g.met.D.Disk.only_now b.rest.plan b.rest.entries b.journal b.disk b.chart.value.items (doubt_of b.doubt) _ c.self.invariant (λ e is. inl is))
