-- A statement as bytes: lines of text, or records.
use Rattle.std.specs.Prelude.{ℕ, Bool, if◌then◌else◌, List}
use Rattle.cf_calls.specs.declared.reply.Row.{Row}
use Rattle.cf_text.specs.Records.{records_text}
use Rattle.cf_text.specs.Statement.{statement_text, title_line}

-- records have no title line
abbrev pub statement_bytes : List ℕ → List ℕ → ℕ → Bool → List Row → List ℕ
statement_bytes city title year is_csv rows = if is_csv then records_text rows
    else statement_text (title_line city title year) rows
