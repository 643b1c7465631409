use Rattle.std.proofs.Common.{◌∙◌, ◌+◌, [], List, ap, sym, drop, map, fold, Bor}
use Rattle.cf_base.proofs.Common.{at_drop_more}
use Rattle.clap.specs.Words.{App, Text, app_of, with_rule}
use Rattle.cf_run_words.specs.CommandLine.{option_rule}
use Rattle.cf_books_words.proofs.words.with_options.Goals as goal

abbrev with_all : App → List (Bor Text) → App
with_all a names = fold with_rule a (map option_rule (map (λ n. n.now) names))

pub loop-name-preserved : goal.loop-name-preserved
loop-name-preserved c =
    let names = c.args.names.now in
    let i = c.loop-name.name-index in
    let none : Bor Text = record { ref_ptr = (0, 0); now = [] } in
    record {
      rest =
          ap (λ (a : App). with_all a (drop (i + 1) names)) c.in_ok-parser.ensures ∙ sym (at_drop_more (with_all (app_of c.loop-name.parser)) names i none c.loop-name-test.true)
          ∙ c.loop-name.invariant.rest;
    }
