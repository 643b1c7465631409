use Rattle.std.proofs.Common.{◌≡◌, ◌∙◌}
use Rattle.cf_base.proofs.Common.{on_ok_weaker}
use Rattle.cf_books.proofs.Steps.{three_texts}
use Rattle.cf_books.proofs.summary.put_chart.Goals as goal

pub returns : goal.returns
returns c =
    let city : c.as_bytes.result.now ≡ c.args.chart.now.city = c.as_bytes.ensures.value ∙ c.city.ensures in
    rw (← city, ← c.first_year.ensures.value, ← c.first_month.ensures.value, ← c.functions.ensures.value, ← c.funds-funds.ensures.value, ← c.depts.ensures.value, ← c.objects.ensures, ← c.sources.ensures.value, ← c.lines.ensures.value, ← c.desks.ensures)
    (on_ok_weaker c.put_laters.result (three_texts c.args.out.now.items c.put_fact.new.out.items c.put_counts.new.out.items c.put_laters.new.out.items _ _ _ c.in_ok-put_fact.ensures c.in_ok-put_counts.ensures) c.put_laters.ensures)
