use Rattle.std.proofs.Common.{◌≡◌, ◌∙◌, None, Some, true, List, Vec, Global, length, ap, sym, subst, IfOk}
use Rattle.cf_base.proofs.Common.{IfOk-weaker}
use Rattle.cf_office_history.specs.HistoryState.{HistoryState}
use Rattle.cf_office.specs.Rolled.{changes_to}
use Rattle.cf_budget.specs.declared.changes.LineChange.{LineChange}
use Rattle.cf_budget.specs.Tables.{has_line}
use Rattle.cf_chart.specs.Common.{Plan}
use Rattle.cf_model.specs.Common.{rolled_year, Documents, documents_of, name_refusal, Registers, registers_of}
use Rattle.cf_model.proofs.Common.{accepted, documents_are}
use Rattle.cf_registers.specs.Moved.{IsCleared, Make, moved_by, plainly_moved}
use Rattle.cf_registers.proofs.Lending.{are_touched, rolled_lent}
use Rattle.cf_registers.proofs.Moved.{make_to}
use Rattle.cf_office.proofs.Rolled.{roll_make, roll_touched, rolled_before}
use Rattle.cf_registers.proofs.Taken.{accepted_cleared}
use Rattle.cf_office.proofs.Tied.{plainly}
use Rattle.cf_office.proofs.prepared.changes_of.Goals as goal

pub roll_changes-requires-clause-year : goal.roll_changes-requires-clause-year
roll_changes-requires-clause-year c =
    rolled_before c.args.rest.now.plan c.args.entry.now.change.on c.args.entry.now.change.act c.in-Some.year c.requires.adds.form.act
    (ap (λ (p : Plan). rolled_year p c.args.entry.now.change.act) (sym c.chart-chart.ensures.value) ∙ sym c.rolled_year.ensures ∙ c.in-Some.is)

pub roll_changes-requires-clause-lent : goal.roll_changes-requires-clause-lent
roll_changes-requires-clause-lent c line =
    subst (λ (s : HistoryState). has_line s.lines line ≡ true) (sym c.new.ensures)
    (rolled_lent c.args.rest.now.plan (has_line c.args.lines.now) c.args.entry.now.change.act c.in-Some.year
    (ap (λ (p : Plan). rolled_year p c.args.entry.now.change.act) (sym c.chart-chart.ensures.value) ∙ sym c.rolled_year.ensures ∙ c.in-Some.is) c.requires.lent line)

pub entry_changes-requires-clause-cleared : goal.entry_changes-requires-clause-cleared
entry_changes-requires-clause-cleared c =
    let plan = c.args.rest.now.plan in
    let h = c.args.rest.now.entries in
    let change = c.args.entry.now.change in
    subst (λ (s : Registers). IsCleared c.chart-chart.result.now s change.on change.act) (sym c.registers.ensures)
    (subst (λ (p : Plan). IsCleared p (registers_of plan h) change.on change.act) (sym c.chart-chart.ensures.value)
    (accepted_cleared plan h c.args.entry.now c.chart-chart.ensures.whole c.chart-chart.ensures.legal c.requires.adds))

pub entry_changes-requires-clause-names : goal.entry_changes-requires-clause-names
entry_changes-requires-clause-names c =
    let plan = c.args.rest.now.plan in
    let h = c.args.rest.now.entries in
    let change = c.args.entry.now.change in
    let documents = sym (ap (λ (r : Registers). r.documents) c.registers.ensures ∙ documents_are plan h) in
    subst (λ (s : Documents). name_refusal c.chart-chart.result.now s change.on change.act ≡ None) documents
    (subst (λ (p : Plan). name_refusal p (documents_of plan h) change.on change.act ≡ None) (sym c.chart-chart.ensures.value) (accepted plan h c.args.entry.now c.requires.adds).names)

pub returns-in-Some-clause-make : goal.returns-in-Some-clause-make
returns-in-Some-clause-make c =
    let plan = c.args.rest.now.plan in
    let h = c.args.rest.now.entries in
    let change = c.args.entry.now.change in
    let rolls : rolled_year plan change.act ≡ Some c.in-Some.year = ap (λ (p : Plan). rolled_year p change.act) (sym c.chart-chart.ensures.value) ∙ sym c.rolled_year.ensures ∙ c.in-Some.is in
    let make = roll_make plan h change.on change.act c.in-Some.year rolls (rolled_before plan change.on change.act c.in-Some.year c.requires.adds.form.act rolls) in
    IfOk-weaker _ _ _ (λ (v : Vec LineChange Global) is. subst (λ (xs : List LineChange). Make plan (moved_by plan (registers_of plan h) change.on change.act) xs) (sym is) make)
    (subst (λ (s : HistoryState). IfOk c.roll_changes.result (λ (v : Vec LineChange Global). v.items ≡ changes_to s.plan s.entries c.in-Some.year (length s.plan.lines))) c.new.ensures c.roll_changes.ensures)

pub returns-in-Some-clause-touched : goal.returns-in-Some-clause-touched
returns-in-Some-clause-touched c =
    let plan = c.args.rest.now.plan in
    let h = c.args.rest.now.entries in
    let act = c.args.entry.now.change.act in
    let rolls : rolled_year plan act ≡ Some c.in-Some.year = ap (λ (p : Plan). rolled_year p act) (sym c.chart-chart.ensures.value) ∙ sym c.rolled_year.ensures ∙ c.in-Some.is in
    let touched = roll_touched plan h act c.in-Some.year (length plan.lines) rolls in
    IfOk-weaker _ _ (λ (v : Vec LineChange Global). are_touched plan act v.items ≡ true) (λ (v : Vec LineChange Global) is. subst (λ (xs : List LineChange). are_touched plan act xs ≡ true) (sym is) touched)
    (subst (λ (s : HistoryState). IfOk c.roll_changes.result (λ (v : Vec LineChange Global). v.items ≡ changes_to s.plan s.entries c.in-Some.year (length s.plan.lines))) c.new.ensures c.roll_changes.ensures)

pub returns-in-None-clause-make : goal.returns-in-None-clause-make
returns-in-None-clause-make c =
    let plan = c.args.rest.now.plan in
    let h = c.args.rest.now.entries in
    let change = c.args.entry.now.change in
    let none : rolled_year plan change.act ≡ None = ap (λ (p : Plan). rolled_year p change.act) (sym c.chart-chart.ensures.value) ∙ sym c.rolled_year.ensures ∙ c.in-None.is in
    IfOk-weaker _ _ _
    (λ (v : Vec LineChange Global) make.
    make_to plan (plainly_moved plan (registers_of plan h) change.on change.act) (moved_by plan (registers_of plan h) change.on change.act) v.items
    (λ line year. plainly plan (registers_of plan h) change.on change.act line year none)
    (subst (λ (s : Registers). Make plan (plainly_moved plan s change.on change.act) v.items) c.registers.ensures
    (subst (λ (p : Plan). Make p (plainly_moved p c.registers.result.now.registers change.on change.act) v.items) c.chart-chart.ensures.value make)))
    c.entry_changes.ensures.make

pub returns-in-None-clause-touched : goal.returns-in-None-clause-touched
returns-in-None-clause-touched c =
    let act = c.args.entry.now.change.act in
    IfOk-weaker _ _ (λ (v : Vec LineChange Global). are_touched c.args.rest.now.plan act v.items ≡ true)
    (λ (v : Vec LineChange Global) touched. subst (λ (p : Plan). are_touched p act v.items ≡ true) c.chart-chart.ensures.value touched) c.entry_changes.ensures.touched
