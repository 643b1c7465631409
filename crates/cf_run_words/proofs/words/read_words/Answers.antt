use Rattle.std.proofs.Common.{rules, ◌≡◌, ◌∙◌, ap, sym, subst, false, refl, map, string_bytes, List, option_and_then}
use Rattle.cf_base.proofs.Common.{list_any}
use Rattle.clap.specs.Words.{app_of, is_simple, kind_of, subcommand_of}
use Rattle.clap.specs.Faults.{fault_of, is_simple_and_free}
use Rattle.clap.specs.Kinds.{IsAmong}
use Rattle.cf_run_words.specs.Forms.{Text}
use Rattle.cf_run_words.specs.Meets.{Gives}
use Rattle.cf_run_words.specs.Parsed.{command_in}
use Rattle.cf_run_words.specs.Words.{command_at, command_of, is_dashes}
use Rattle.cf_run_words.proofs.CommandLine.{at_err, at_ok, is_plain, refuses}
use Rattle.cf_run_words.proofs.Text.{words_are}
use Rattle.cf_run_words.proofs.words.read_words.Goals as goal

asked : (words : List Text) → list_any is_dashes words ≡ false → command_at words ≡ command_of words
asked words e = rw e refl

pub returns-in-Ok-try_get_matches_from-clause-command : goal.returns-in-Ok-try_get_matches_from-clause-command
returns-in-Ok-try_get_matches_from-clause-command c =
    let words = map string_bytes c.args.words.now in
    let plain : list_any is_dashes words ≡ false = search rules in
    let told = c.in-Ok.ensures in
    let parse = c.in-Ok-try_get_matches_from.ensures in
    let none = sym (ap (λ a. fault_of a words) told) ∙ parse.kinds (ap is_simple_and_free told ∙ is_plain) in
    let met = (parse.matches (ap is_simple told ∙ refl)).1 ∙ ap (λ a. subcommand_of a words) told in
    subst (Gives c.command_of_matches.result) (ap (option_and_then command_in) met ∙ at_ok words (words_are c.args.words.now plain) none ∙ asked words plain)
    c.command_of_matches.ensures.command

pub returns-in-Err-try_get_matches_from-clause-command : goal.returns-in-Err-try_get_matches_from-clause-command
returns-in-Err-try_get_matches_from-clause-command c =
    let words = map string_bytes c.args.words.now in
    let plain : list_any is_dashes words ≡ false = search rules in
    let told = c.in-Ok.ensures in
    let kinds = c.in-Err-try_get_matches_from.ensures.kinds (ap is_simple_and_free told ∙ is_plain) in
    let kind = kind_of c.in-Err-try_get_matches_from.error in
    refuses c.refusal_of.result (command_of words) kind (fault_of (app_of c.in-Ok.command) words) c.refusal_of.ensures kinds
    (λ among. sym (asked words plain) ∙ at_err words kind (words_are c.args.words.now plain) (subst (λ a. IsAmong kind (fault_of a words)) told among))
