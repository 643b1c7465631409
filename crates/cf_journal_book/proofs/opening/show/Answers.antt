use Rattle.std.proofs.Common.{◌≡◌, ◌+◌, ◌∙◌, ap, sym, subst, List, [], ◌∷◌, ◌++◌, length, Option, Some, IfSome, OnOk}
use Rattle.cf_base.proofs.Common.{on_ok_weaker}
use Rattle.cf_model.specs.Common.{Entry, Gov as GovBasis, act_posts, registers_of}
use Rattle.cf_calls.specs.declared.read.Basis.TheVariants.{Fund as FundBasis}
use Rattle.cf_chart.specs.Common.{Plan}
use Rattle.cf_journal_book.specs.Watching.{Posted, IsNext, all_posted, shown_as}
use Rattle.cf_journal_book.proofs.Watched.{next_seen, prepared_next, shown_is}
use Rattle.cf_journal_book.proofs.opening.show.Goals as goal

pub see-requires : goal.see-requires
see-requires g c =
    let plan = c.args.office.now.plan in
    let h = c.args.office.now.entries in
    let e = c.in-Some.entry.now in
    let chart : c.chart.result.now ≡ plan = c.chart.ensures.value ∙ c.history-history.ensures.plan in
    let ready : c.args.office.now.ready ≡ Some e = sym c.in-Some.ensures in
    let fund : c.posts-fund.result.now ≡ act_posts FundBasis plan (registers_of plan h) e.change.on e.change.act =
    subst (λ (o : Option Entry). IfSome o (λ x. c.posts-fund.result.now ≡ act_posts FundBasis plan (registers_of plan h) x.change.on x.change.act)) ready c.posts-fund.ensures in
    let gov : c.posts-gov.result.now ≡ act_posts GovBasis plan (registers_of plan h) e.change.on e.change.act =
    subst (λ (o : Option Entry). IfSome o (λ x. c.posts-gov.result.now ≡ act_posts GovBasis plan (registers_of plan h) x.change.on x.change.act)) ready c.posts-gov.ensures in
    let before : c.registers.result.now.registers ≡ registers_of plan h = c.registers.ensures ∙ (λ i. registers_of (c.history-history.ensures.plan i) (c.history-history.ensures.entries i)) in
    let place : length c.entries.result.now + 1 ≡ length h + 1 = ap (λ (x : List Entry). length x + 1) c.entries.ensures.value in
    let x : Posted = shown_as (length c.entries.result.now + 1) e c.registers.result.now.registers c.posts-fund.result.now c.posts-gov.result.now in
    let is = shown_is plan h e (length c.entries.result.now + 1) c.registers.result.now.registers c.posts-fund.result.now c.posts-gov.result.now place before fund gov in
    let next : IsNext plan h x c.changes-changes.result.now = prepared_next c.args.office.now c.args.prepared.now c.requires.0 e c.changes-changes.result.now x c.requires.1 ready c.changes-changes.ensures is in
    (h, subst (λ (p : Plan). IsNext p h x c.changes-changes.result.now) (sym chart) next)

pub returns : goal.returns
returns g c =
    let plan = c.args.office.now.plan in
    let h = c.args.office.now.entries in
    let e = c.in-Some.entry.now in
    let seen = g.W.Watch.has_seen in
    let chart : c.chart.result.now ≡ plan = c.chart.ensures.value ∙ c.history-history.ensures.plan in
    let ready : c.args.office.now.ready ≡ Some e = sym c.in-Some.ensures in
    let fund : c.posts-fund.result.now ≡ act_posts FundBasis plan (registers_of plan h) e.change.on e.change.act =
    subst (λ (o : Option Entry). IfSome o (λ x. c.posts-fund.result.now ≡ act_posts FundBasis plan (registers_of plan h) x.change.on x.change.act)) ready c.posts-fund.ensures in
    let gov : c.posts-gov.result.now ≡ act_posts GovBasis plan (registers_of plan h) e.change.on e.change.act =
    subst (λ (o : Option Entry). IfSome o (λ x. c.posts-gov.result.now ≡ act_posts GovBasis plan (registers_of plan h) x.change.on x.change.act)) ready c.posts-gov.ensures in
    let before : c.registers.result.now.registers ≡ registers_of plan h = c.registers.ensures ∙ (λ i. registers_of (c.history-history.ensures.plan i) (c.history-history.ensures.entries i)) in
    let place : length c.entries.result.now + 1 ≡ length h + 1 = ap (λ (x : List Entry). length x + 1) c.entries.ensures.value in
    let x : Posted = shown_as (length c.entries.result.now + 1) e c.registers.result.now.registers c.posts-fund.result.now c.posts-gov.result.now in
    let is = shown_is plan h e (length c.entries.result.now + 1) c.registers.result.now.registers c.posts-fund.result.now c.posts-gov.result.now place before fund gov in
    let next : IsNext plan h x c.changes-changes.result.now = prepared_next c.args.office.now c.args.prepared.now c.requires.0 e c.changes-changes.result.now x c.requires.1 ready c.changes-changes.ensures is in
    λ so_far.
    subst (λ (o : Option Entry). IfSome o (λ y. OnOk c.see.result (seen c.see.new.self plan (all_posted plan (h ++ y ∷ []))))) c.in-Some.ensures
    (on_ok_weaker c.see.result (next_seen (seen c.see.new.self) plan c.chart.result.now h e x chart is)
    (c.see.ensures h (subst (λ (p : Plan). seen c.args.watch.now p (all_posted p h)) (sym chart) so_far) (subst (λ (p : Plan). IsNext p h x c.changes-changes.result.now) (sym chart) next)))
