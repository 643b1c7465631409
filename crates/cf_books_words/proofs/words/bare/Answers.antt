use Rattle.std.proofs.Common.{◌∙◌, ap, true}
use Rattle.clap.specs.Words.{App, Shape}
use Rattle.clap.specs.Simple.{app_of_fields, on_top}
use Rattle.cf_books_words.proofs.words.bare.Goals as goal

abbrev nameless : App → App
nameless = on_top (λ (s : Shape). record s { no_binary_name = true })

abbrev helpless : App → App
helpless = on_top (λ (s : Shape). record s { disable_help_flag = true })

pub returns-clause-told : goal.returns-clause-told
returns-clause-told c = ap app_of_fields c.disable_help_flag.ensures ∙ ap helpless (ap app_of_fields c.no_binary_name.ensures ∙ ap nameless c.new.ensures.app)
