use Rattle.std.proofs.Common.{◌≡◌, true, ◌∙◌, sym, ap, subst, List, Vec, Global, option_copied}
use Rattle.cf_base.proofs.Common.{IfOk-weaker}
use Rattle.cf_budget.specs.declared.changes.LineChange.{LineChange}
use Rattle.cf_registers.specs.Moved.{Make, plainly_moved, moves_row, act_moves, adoption_changes}
use Rattle.cf_registers.proofs.Lending.{are_touched, adoption_touched, amendment_touched, transfer_touched}
use Rattle.cf_registers.proofs.Moved.{make_to, adoption_make, amendment_make, transfer_make, moves_are}
use Rattle.cf_registers.proofs.Options.{none_is}
use Rattle.cf_registers.proofs.moves.entry_changes.Goals as goal

pub returns-in-Some-clause-make : goal.returns-in-Some-clause-make
returns-in-Some-clause-make c =
    let plan = c.args.chart.now in
    let s = c.args.registers.now.registers in
    let make = adoption_make plan s c.args.on c.args.act.now c.in-Some.a.now (sym c.adoption.ensures ∙ ap option_copied c.in-Some.is) c.requires.cleared.form c.requires.names in
    IfOk-weaker _ _ _ (λ (v : Vec LineChange Global) is. subst (λ (xs : List LineChange). Make plan (plainly_moved plan s c.args.on c.args.act.now) xs) (sym (is ∙ ap (adoption_changes c.in-Some.a.now.year) c.as_slice.ensures)) make) c.adoption-in-Some.ensures

pub returns-in-Some-amendment-clause-make : goal.returns-in-Some-amendment-clause-make
returns-in-Some-amendment-clause-make c =
    let plan = c.args.chart.now in
    let s = c.args.registers.now.registers in
    let make = amendment_make plan s c.args.on c.args.act.now c.in-Some-amendment.a.now (sym c.amendment.ensures ∙ ap option_copied c.in-Some-amendment.is) c.requires.cleared.form c.requires.names in
    IfOk-weaker _ _ _ (λ v is. subst (λ (xs : List LineChange). Make plan (plainly_moved plan s c.args.on c.args.act.now) xs) (sym is) make) c.amendment-in-Some-amendment.ensures

pub returns-in-Some-line_transfer-clause-make : goal.returns-in-Some-line_transfer-clause-make
returns-in-Some-line_transfer-clause-make c =
    let plan = c.args.chart.now in
    let s = c.args.registers.now.registers in
    let make = transfer_make plan s c.args.on c.args.act.now c.in-Some-line_transfer.t.now (sym c.line_transfer.ensures ∙ ap option_copied c.in-Some-line_transfer.is) c.requires.cleared.form c.requires.names in
    IfOk-weaker _ _ _ (λ v is. subst (λ (xs : List LineChange). Make plan (plainly_moved plan s c.args.on c.args.act.now) xs) (sym is) make) c.transfer.ensures

pub returns-clause-make : goal.returns-clause-make
returns-clause-make c =
    let plan = c.args.chart.now in
    let s = c.args.registers.now.registers in
    let no_adoption = sym c.adoption.ensures ∙ ap option_copied (none_is c.adoption.result c.in_default.not-Some) in
    let no_amendment = sym c.amendment.ensures ∙ ap option_copied (none_is c.amendment.result c.in_default-amendment.not-Some) in
    let no_transfer = sym c.line_transfer.ensures ∙ ap option_copied (none_is c.line_transfer.result c.in_default-line_transfer.not-Some) in
    let make : Make plan (plainly_moved plan s c.args.on c.args.act.now) c.merged_moves.result.items =
    make_to plan (moves_row plan (act_moves plan s c.args.on c.args.act.now)) (plainly_moved plan s c.args.on c.args.act.now) c.merged_moves.result.items
    (moves_are plan s c.args.on c.args.act.now no_adoption no_amendment no_transfer) c.merged_moves.ensures.made in
    IfOk-weaker _ _ _ (λ (v : Vec LineChange Global) is. subst (λ (xs : List LineChange). Make plan (plainly_moved plan s c.args.on c.args.act.now) xs) (sym (is ∙ c.as_slice-2.ensures.value)) make) c.from_slice.ensures.items

pub returns-in-Some-clause-touched : goal.returns-in-Some-clause-touched
returns-in-Some-clause-touched c =
    let plan = c.args.chart.now in
    let touched = adoption_touched plan c.args.act.now c.in-Some.a.now (sym c.adoption.ensures ∙ ap option_copied c.in-Some.is) in
    IfOk-weaker _ _ (λ (v : Vec LineChange Global). are_touched plan c.args.act.now v.items ≡ true) (λ v is. subst (λ (xs : List LineChange). are_touched plan c.args.act.now xs ≡ true) (sym (is ∙ ap (adoption_changes c.in-Some.a.now.year) c.as_slice.ensures)) touched) c.adoption-in-Some.ensures

pub returns-in-Some-amendment-clause-touched : goal.returns-in-Some-amendment-clause-touched
returns-in-Some-amendment-clause-touched c =
    let plan = c.args.chart.now in
    let touched = amendment_touched plan c.args.act.now c.in-Some-amendment.a.now (sym c.amendment.ensures ∙ ap option_copied c.in-Some-amendment.is) in
    IfOk-weaker _ _ (λ (v : Vec LineChange Global). are_touched plan c.args.act.now v.items ≡ true) (λ v is. subst (λ (xs : List LineChange). are_touched plan c.args.act.now xs ≡ true) (sym is) touched) c.amendment-in-Some-amendment.ensures

pub returns-in-Some-line_transfer-clause-touched : goal.returns-in-Some-line_transfer-clause-touched
returns-in-Some-line_transfer-clause-touched c =
    let plan = c.args.chart.now in
    let touched = transfer_touched plan c.args.act.now c.in-Some-line_transfer.t.now (sym c.line_transfer.ensures ∙ ap option_copied c.in-Some-line_transfer.is) in
    IfOk-weaker _ _ (λ (v : Vec LineChange Global). are_touched plan c.args.act.now v.items ≡ true) (λ v is. subst (λ (xs : List LineChange). are_touched plan c.args.act.now xs ≡ true) (sym is) touched) c.transfer.ensures

pub returns-clause-touched : goal.returns-clause-touched
returns-clause-touched c =
    let plan = c.args.chart.now in
    IfOk-weaker _ _ (λ (v : Vec LineChange Global). are_touched plan c.args.act.now v.items ≡ true) (λ (v : Vec LineChange Global) is. subst (λ (xs : List LineChange). are_touched plan c.args.act.now xs ≡ true) (sym (is ∙ c.as_slice-2.ensures.value)) c.merged_moves.ensures.touched) c.from_slice.ensures.items
