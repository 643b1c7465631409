use Rattle.std.proofs.Common.{◌∙◌, Ok, ap, sym}
use Rattle.cf_base.proofs.Common.{false≢true}
use Rattle.toml.specs.View.{table_view}
use Rattle.cf_chart.proofs.Documents.{value_of-none, value_of-text}
use Rattle.cf_books.specs.FaultRows.{id_under}
use Rattle.cf_books.proofs.fault_rows.id_under.Goals as goal

pub returns-in-Ok : goal.returns-in-Ok
returns-in-Ok c =
    let read = value_of-text c.args.bytes.now (table_view c.in-Ok.table) c.in-Ok.ensures.ok.0 c.in-Ok.ensures.ok.1 in
    c.id_at.ensures ∙ ap (λ d. id_under c.args.row (Ok d)) c.from.ensures ∙ ap (id_under c.args.row) (sym read)

pub returns-in-Err-2 : goal.returns-in-Err-2
returns-in-Err-2 c = sym (ap (id_under c.args.row) (value_of-none c.args.bytes.now (c.in-Err.ensures.refused (λ m. false≢true (c.if-is_memory.ensures.1 m)))))
