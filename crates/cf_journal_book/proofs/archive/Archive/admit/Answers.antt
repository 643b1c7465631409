use Rattle.std.proofs.Common.{◌≡◌, ◌∙◌, inl, sym, subst}
use Rattle.cf_office_history.specs.HistoryState.{HistoryState}
use Rattle.cf_journal_book.specs.Recovery.{entry_refusal}
use Rattle.cf_journal_book.specs.Snapshots.{doubt_of}
use Rattle.cf_journal_book.proofs.Recovering.{still_near, taken_adds}
use Rattle.cf_journal_book.proofs.archive.Archive.admit.Goals as goal

pub new-history-requires : goal.new-history-requires
new-history-requires g c = rw (← c.self.view_is) at c.requires.tables

pub returns-in-Some-clause-refused : goal.returns-in-Some-clause-refused
returns-in-Some-clause-refused g c =
    let says = subst (λ (x : HistoryState). c.refusal_of.result ≡ entry_refusal x.plan x.entries c.args.entry) c.new-history.ensures c.refusal_of.ensures in
    rw (← c.self.view_is) (sym says ∙ c.in-Some.is)

pub returns-in-Some-clause-any_moment : goal.returns-in-Some-clause-any_moment
returns-in-Some-clause-any_moment g c =
    let b = c.self.inside in
    let d = g.D.Disk in
    rw (← c.self.view_is) (still_near d.tells d.is_image d.moment d.was_image g.met.D.Disk.only_now b.rest.plan b.rest.entries b.journal b.disk b.chart.value.items (doubt_of b.doubt) _ c.self.invariant (λ e is. inl is))

pub accept-requires-clause-accepted : goal.accept-requires-clause-accepted
accept-requires-clause-accepted g c =
    let b = c.self.inside in
    let says = subst (λ (x : HistoryState). c.refusal_of.result ≡ entry_refusal x.plan x.entries c.args.entry) c.new-history.ensures c.refusal_of.ensures in
    rw (← c.self.view_is) (taken_adds b.rest.plan b.rest.entries c.args.entry c.requires.form (sym says ∙ c.in-None.is)).accepts

pub returns-in-None-clause-taken : goal.returns-in-None-clause-taken
returns-in-None-clause-taken g c =
    let says = subst (λ (x : HistoryState). c.refusal_of.result ≡ entry_refusal x.plan x.entries c.args.entry) c.new-history.ensures c.refusal_of.ensures in
    rw (← c.self.view_is) (sym says ∙ c.in-None.is)
