use Rattle.std.proofs.Common.{◌++◌, ◌∷◌, [], codes, refl}
use Rattle.http.specs.StatusCode.{code_digits}
use Rattle.cf_http_heads.specs.Answers.{phrase_of}
use Rattle.cf_http_heads.proofs.Joining.{joined_more, joined_none}
use Rattle.cf_http_heads.proofs.lines.put_status.Goals as goal

pub returns-clause-text : goal.returns-clause-text
returns-clause-text c =
    let out = c.args.out.now.items in
    joined_more out (codes "HTTP/1.1 ") (code_digits c.args.code ∷ codes " " ∷ phrase_of c.args.code ∷ []) c.put-4.new.out.items
    (joined_more (out ++ codes "HTTP/1.1 ") (code_digits c.args.code) (codes " " ∷ phrase_of c.args.code ∷ []) c.put-4.new.out.items
    (joined_more ((out ++ codes "HTTP/1.1 ") ++ code_digits c.args.code) (codes " ") (phrase_of c.args.code ∷ []) c.put-4.new.out.items
    (joined_more (((out ++ codes "HTTP/1.1 ") ++ code_digits c.args.code) ++ codes " ") (phrase_of c.args.code) [] c.put-4.new.out.items
    (joined_none ((((out ++ codes "HTTP/1.1 ") ++ code_digits c.args.code) ++ codes " ") ++ phrase_of c.args.code) c.put-4.new.out.items
    (rw (c.put-4.ensures.text, c.put-3.ensures.text, c.put-2.ensures.text, c.put.ensures.text) (rw (c.digits.ensures, c.phrase.ensures.text) refl))))))
