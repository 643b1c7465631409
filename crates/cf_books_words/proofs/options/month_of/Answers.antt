use Rattle.std.proofs.Common.{◌∙◌, ap}
use Rattle.cf_base.specs.Common.{month_of_text}
use Rattle.cf_books_words.proofs.options.month_of.Goals as goal

pub returns-clause-month : goal.returns-clause-month
returns-clause-month c = c.read_month.ensures ∙ ap month_of_text c.as_bytes.ensures.value
