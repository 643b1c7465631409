use Rattle.std.proofs.Common.{◌≡◌, ◌≤◌, ◌+◌, ◌++◌, drop, length, map}
use Rattle.cf_model.specs.Common.{hold_move}
use Rattle.cf_office_rows.specs.Items.{item_rows}
use Rattle.cf_office_rows.specs.Rows.{kept}
use Rattle.cf_office_rows.proofs.documents.put_held.Given as goal

-- what was added, and what is still to come
abbrev pub invariant-loop-account : goal.invariant-loop-account
invariant-loop-account l = record {
  few : length l.items ≤ 32;
  item : l.item ≡ l.account-index + 1;
  rows : l.out.items ++ kept (item_rows l.chart l.place l.document l.item (map (hold_move l.year) (drop l.account-index l.items)))
      ≡ l.initial.out.items ++ kept (item_rows l.chart l.place l.document 1 (map (hold_move l.year) l.items));
}
