-- The rows of entries that were seen.
use Rattle.std.specs.Prelude.{List, flat_map}
use Rattle.cf_journal_book.specs.Watching.{Posted}
use Rattle.cf_chart.specs.Common.{Plan}
use Rattle.cf_office_rows.specs.declared.rows.LedgerRow.{LedgerRow}
use Rattle.cf_office_rows.specs.Entries.{entry_rows}

abbrev pub rows_by : Plan → Posted → List LedgerRow
rows_by plan x = entry_rows plan x.before x.place x.entry x.fund

abbrev pub rows_in : Plan → List Posted → List LedgerRow
rows_in plan posted = flat_map (rows_by plan) posted
