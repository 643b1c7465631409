use Rattle.std.proofs.Common.{◌+◌, ◌/◌, ◌++◌, ◌∷◌, [], true, false, map, sum_by, ap, sym, append_assoc, ◌∙◌}
use Rattle.cf_assets.specs.Charges.{of_kind}
use Rattle.cf_debt.specs.Register.{Debts}
use Rattle.cf_model.specs.Common.{interest_charge}
use Rattle.cf_post.specs.declared.deed.Deed.TheVariants as deed
use Rattle.cf_registers.specs.Deeds.{amortize_deed, charge_deed}
use Rattle.cf_registers.proofs.closing.close_month.Goals as goal

pub returns : goal.returns
returns c =
    let fs = c.args.chart.now.functions in
    let months = c.closed.ensures in
    let first = c.first_year.ensures.value in
    let own = c.assets.ensures in
    let a = c.assets.result.now in
    let year = c.first_year.result + c.closed.result / 12 in
    let interest = c.month_interest.ensures.value ∙ ap (λ (d : Debts). sum_by (interest_charge d.closed) d.bonds) c.debt.ensures in
    let owned = c.in_ok-deeds.ensures a.closed (of_kind false a.assets) c.month_charges-charges.ensures.owned in
    let leased = c.in_ok-amortize.ensures a.closed (of_kind true a.assets) c.month_charges-charges.ensures.leased in
    c.in_ok-push.ensures.items
    ∙ ap (λ ys. ys ++ deed.AccrueInterest (record { year = year; amount = c.month_interest.result }) ∷ []) (leased ∙ ap (λ xs. xs ++ map (amortize_deed year a.closed (of_kind true a.assets)) fs) owned)
    ∙ append_assoc (map (charge_deed year a.closed (of_kind false a.assets)) fs) (map (amortize_deed year a.closed (of_kind true a.assets)) fs) (deed.AccrueInterest (record { year = year; amount = c.month_interest.result }) ∷ [])
    ∙ (λ j. map (charge_deed (first j + months j / 12) (sym own.closed j) (of_kind false (sym own.assets j))) fs
    ++ (map (amortize_deed (first j + months j / 12) (sym own.closed j) (of_kind true (sym own.assets j))) fs ++ deed.AccrueInterest (record { year = first j + months j / 12; amount = interest j }) ∷ []))
