use Rattle.std.proofs.Common.{rules, ◌≡◌, ◌∙◌, true}
use Rattle.cf_run_words.specs.Words.{begins_number}
use Rattle.cf_run_words.proofs.Numbers.{number_read}
use Rattle.cf_run_words.proofs.number.number_of_text.Goals as goal

pub returns : goal.returns
returns c =
    let lead : begins_number c.args.text.now ≡ true = search rules in
    c.ok.ensures.value ∙ number_read c.args.text.now c.parse.result lead c.parse.ensures.value.0
