use Rattle.std.proofs.Common.{◌≡◌, ◌<◌, ◌^◌, ◌++◌, List, ap, subst, sym, ◌∙◌, unsigned_abs, All}
use Rattle.cf_base.proofs.Common.{on_ok_weaker}
use Rattle.cf_journal_book.specs.Watching.{Posted, all_posted, shown_as}
use Rattle.cf_ledger.specs.declared.post.Post.{Post}
use Rattle.cf_model.specs.Common.{Registers, registers_of}
use Rattle.cf_registers.specs.Moved.{IsCleared}
use Rattle.cf_registers.proofs.Taken.{accepted_cleared}
use Rattle.cf_office_rows.specs.Rolls.{AreReleased}
use Rattle.cf_office_rows.specs.Entries.{entry_rows}
use Rattle.cf_office_rows.proofs.Orderly.{released_always}
use Rattle.cf_books_ledger.proofs.Gathering.{posts_fit, rows_push}
use Rattle.cf_books_ledger.proofs.gather.GatheredWatch.see.Goals as goal

pub put_entry-requires-clause-cleared : goal.put_entry-requires-clause-cleared
put_entry-requires-clause-cleared c =
    let plan = c.args.chart.now in
    let e = c.args.entry.now in
    let h = c.requires.0 in
    let next = c.requires.1 in
    let before : c.args.before.now.registers ≡ registers_of plan h = ap (λ (x : Posted). x.before) next.posted in
    subst (λ (s : Registers). IsCleared plan s e.change.on e.change.act) (sym before) (accepted_cleared plan h e c.whole.ensures next.legal next.adds)

pub put_entry-requires-clause-released : goal.put_entry-requires-clause-released
put_entry-requires-clause-released c =
    let plan = c.args.chart.now in
    let h = c.requires.0 in
    let next = c.requires.1 in
    let before : c.args.before.now.registers ≡ registers_of plan h = ap (λ (x : Posted). x.before) next.posted in
    subst (λ (s : Registers). AreReleased s.documents.holds) (sym before) (released_always plan h next.legal)

pub put_entry-requires-clause-small : goal.put_entry-requires-clause-small
put_entry-requires-clause-small c =
    let plan = c.args.chart.now in
    let e = c.args.entry.now in
    let h = c.requires.0 in
    let next = c.requires.1 in
    let P : List Post → Type 0 = λ posts. All (λ (p : Post). unsigned_abs p.amount < 2 ^ 127) posts in
    subst P (sym (ap (λ (x : Posted). x.fund) next.posted)) (posts_fit plan h e c.whole.ensures.few_functions next.legal next.adds)

pub returns : goal.returns
returns c =
    let plan = c.args.chart.now in
    let e = c.args.entry.now in
    let s = c.args.before.now.registers in
    λ history was next.
    on_ok_weaker c.put_entry.result
    (λ put. put ∙ ap (λ t. t ++ entry_rows plan s c.args.place e c.args.fund.now) was
    ∙ sym (rows_push plan (all_posted plan history) (shown_as c.args.place e s c.args.fund.now c.args._gov.now))) c.put_entry.ensures
