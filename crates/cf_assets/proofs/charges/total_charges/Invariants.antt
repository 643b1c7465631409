use Rattle.std.proofs.Common.{◌≡◌, ◌≤◌, ◌*◌, get_or, take, sum_by, true}
use Rattle.cf_assets.specs.Rows.{view_asset, no_row}
use Rattle.cf_assets.specs.Charges.{charge_in}
use Rattle.cf_model.specs.Common.{charge}
use Rattle.cf_assets.proofs.charges.total_charges.Given as goal
use Rattle.cf_base.specs.Common.{most_cents}

abbrev pub invariant-loop-at : goal.invariant-loop-at
invariant-loop-at l = record {
  all : l.all ≡ sum_by (λ at. charge l.closed (view_asset (get_or l.rows at no_row))) (take l.at-index l.serving);
  leased : l.leased ≡ sum_by (λ at. charge_in true l.closed (view_asset (get_or l.rows at no_row))) (take l.at-index l.serving);
  small : l.all ≤ l.at-index * most_cents;
  less : l.leased ≤ l.at-index * most_cents;
}
