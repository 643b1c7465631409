-- The rows of what the council moves (GASB Codification 1700: the annual budget is adopted, and
-- amended).
use Rattle.std.specs.Prelude.{ℕ, List, [], ◌∷◌, map, pos, ◌-ℤ◌}
use Rattle.cf_model.specs.Common.{LineTransfer, LineAmount}
use Rattle.cf_chart.specs.Common.{Plan}
use Rattle.cf_office_rows.specs.declared.rows.LedgerRow.{LedgerRow}
use Rattle.cf_office_rows.specs.Rows.{appropriates, on_line, origin}

-- the lines that an adoption names
abbrev pub adopted_rows : Plan → ℕ → ℕ → List LineAmount → List LedgerRow
adopted_rows plan place year lines =
    map (λ l. on_line plan (origin place 0 0) l.line year (appropriates (pos l.amount))) lines

-- the line that a transfer lowers, and the one that it raises
abbrev pub transfer_rows : Plan → ℕ → LineTransfer → List LedgerRow
transfer_rows plan place t =
    on_line plan (origin place 0 0) t.from t.year (appropriates (pos 0 -ℤ pos t.amount))
    ∷ on_line plan (origin place 0 0) t.to t.year (appropriates (pos t.amount)) ∷ []
