use Rattle.std.proofs.Common.{◌≡◌, ◌∙◌, ◌&&◌, ap, sym, map, true, false}
use Rattle.cf_base.proofs.Common.{list_all}
use Rattle.clap.specs.Words.{found_of, rows_of}
use Rattle.cf_books_words.specs.Options.{flag_names, is_own, is_own_flag, option_names}
use Rattle.cf_books_words.proofs.Names.{all_names}
use Rattle.cf_books_words.proofs.options.has_only.Goals as goal

pub returns-then-are_own : goal.returns-then-are_own
returns-then-are_own c =
    let rows = rows_of (found_of c.args.matches.now) in
    let own = map (λ n. n.now) c.args.own.now in
    let flags = c.are_own_flags.ensures ∙ all_names (is_own_flag rows own) c.flag_names.result.now ∙ ap (list_all (is_own_flag rows own)) c.flag_names.ensures in
    let options : list_all (is_own rows own) option_names ≡ true =
    sym (ap (list_all (is_own rows own)) c.option_names.ensures) ∙ sym (all_names (is_own rows own) c.option_names.result.now) ∙ sym c.are_own.ensures ∙ c.if-are_own.true in
    flags ∙ ap (λ b. b && list_all (is_own_flag rows own) flag_names) (sym options)

pub returns-else-are_own : goal.returns-else-are_own
returns-else-are_own c =
    let rows = rows_of (found_of c.args.matches.now) in
    let own = map (λ n. n.now) c.args.own.now in
    let options : list_all (is_own rows own) option_names ≡ false =
    sym (ap (list_all (is_own rows own)) c.option_names.ensures) ∙ sym (all_names (is_own rows own) c.option_names.result.now) ∙ sym c.are_own.ensures ∙ c.if-are_own.false in
    c.if-are_own.false ∙ ap (λ b. b && list_all (is_own_flag rows own) flag_names) (sym options)
