use Rattle.std.proofs.Common.{◌∙◌, sym, ap, drop}
use Rattle.cf_http_heads.proofs.PlaceLaws.{last_two}
use Rattle.cf_http_heads.proofs.router.two_words.Goals as goal

pub returns : goal.returns
returns c a b d words =
    let after = ap (drop 1) (sym c.in_ok-words.ensures ∙ words) in
    let last = ap (drop 1) (sym c.in_ok-two.ensures ∙ after) in
    last_two b d c.in_ok-two.two.now c.split_word-3.result last c.split_word-3.ensures
