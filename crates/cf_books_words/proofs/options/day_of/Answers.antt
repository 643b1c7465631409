use Rattle.std.proofs.Common.{◌∙◌, ap}
use Rattle.cf_base.specs.Common.{day_of_text}
use Rattle.cf_books_words.proofs.options.day_of.Goals as goal

pub returns-clause-day : goal.returns-clause-day
returns-clause-day c = c.read_day.ensures ∙ ap day_of_text c.as_bytes.ensures.value
