use Rattle.std.proofs.Common.{◌≡◌, ◌<◌, ◌∙◌, ◌∷◌, ℕ, List, length, Option, Some, None, MatchOption, eqb, arith, sym, ap, Bor}
use Rattle.cf_base.proofs.Common.{position_or_len, before_first, after_first, split_once_first}
use Rattle.cf_http_heads.specs.Routes.{IsSplit}
use Rattle.cf_http_heads.specs.Fields.{parts}
use Rattle.cf_http_heads.proofs.FieldLaws.{parts_split, parts_whole}
use Rattle.cf_http_heads.proofs.router.split_word.Goals as goal

split_by : (path : List ℕ) (r : Option (Bor (List ℕ) × Bor (List ℕ)))
    → MatchOption r (position_or_len (λ b. eqb b 47) path ≡ length path) (λ x. (position_or_len (λ b. eqb b 47) path < length path) × (x.0.now ≡ before_first (λ b. eqb b 47) path) × (x.1.now ≡ after_first (λ b. eqb b 47) path))
    → IsSplit path r
split_by path None h = parts_whole 47 path h
split_by path (Some x) h = parts_split 47 path h.0 ∙ ap (λ w. w ∷ parts 47 (after_first (λ b. eqb b 47) path)) (sym h.1) ∙ ap (λ t. x.0.now ∷ parts 47 t) (sym h.2)

pub returns : goal.returns
returns c = split_by c.args.path.now c.split_once.result (split_once_first 47 c.args.path.now c.split_once.result c.split_once.ensures.cases (omega arith))
