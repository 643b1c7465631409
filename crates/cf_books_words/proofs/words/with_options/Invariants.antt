use Rattle.std.proofs.Common.{◌≡◌, drop, map, fold}
use Rattle.clap.specs.Words.{app_of, with_rule}
use Rattle.cf_run_words.specs.CommandLine.{option_rule}
use Rattle.cf_books_words.proofs.words.with_options.Given as goal

abbrev pub invariant-loop-name : goal.invariant-loop-name
invariant-loop-name l = record {
  rest : fold with_rule (app_of l.parser) (map option_rule (map (λ n. n.now) (drop l.name-index l.names))) ≡ fold with_rule (app_of l.initial.parser) (map option_rule (map (λ n. n.now) l.names));
}
