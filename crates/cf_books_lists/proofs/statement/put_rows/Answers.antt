use Rattle.std.proofs.Common.{◌∙◌, ap, ◌+◌, Bool, ℕ, List, drop, refl, rules}
use Rattle.cf_model.specs.Common.{Row}
use Rattle.cf_books_lists.specs.Rows.{added}
use Rattle.cf_books_lists.specs.Statement.{line_at, row_text, rows_text, section_below}
use Rattle.cf_books_lists.proofs.Next.{next_written}
use Rattle.cf_books_lists.proofs.statement.put_rows.Goals as goal

pub loop-row-preserved : goal.loop-row-preserved
loop-row-preserved c =
    let plan = c.args.chart.now in
    let kind = c.args.kind in
    let lines = c.args.lines.now in
    let rows = c.args.rows.now in
    let i = c.loop-row.row-index in
    let section = c.loop-row.section.now in
    let place = c.loop-row.place in
    let out = c.loop-row.out in
    let more = c.put_row.new.out in
    let new : Row → Bool → List ℕ = λ x csv. row_text csv plan kind section (line_at lines place) x in
    let rest : Row → Bool → List ℕ = λ x csv. rows_text csv plan kind lines (section_below section x) (place + 1) (drop (i + 1) rows) in
    let wrote = c.in_ok-put_row.ensures ∙ ap (λ line. added out (row_text out.csv plan kind section line c.row-item.result)) c.line_at.ensures in
    record {
      text =
          ap (λ s. added more (rows_text more.csv plan kind lines s (place + 1) (drop (i + 1) rows))) c.section_below-section.ensures
          ∙ next_written new rest (rows_text out.csv plan kind lines section place) rows i c.row-item.result out more _ c.loop-row-test.true c.row-item.is
          wrote (λ x. refl) c.loop-row.invariant.text;
      place = search rules;
    }
