use Rattle.std.proofs.Common.{◌≡◌, ◌++◌, ◌∙◌, ℕ, codes, decimal, ap, sym, arith, true≢false, Result, Ok, Err, is_ok, rules}
use Rattle.cf_base.proofs.Common.{bytes_eq-Decides, parse-decimal, result_unwrap_or}
use Rattle.cf_claims.proofs.Numbers.{tail_of}
use Rattle.cf_claims.proofs.marks.claim_number.Goals as goal

ok≢err : {X E : Type 0} (x : X) (e : E) → Err e ≡ Ok x → ⊥
ok≢err x e h = true≢false (sym (ap (λ r. is_ok r) h))

-- two readings of one text agree
ok_is : {E : Type 0} (x y : ℕ) (r : Result ℕ E) → r ≡ Ok x → r ≡ Ok y → x ≡ y
ok_is x y r h k = ap (λ q. result_unwrap_or q x) (sym h ∙ k)

pub returns-in-Err : goal.returns-in-Err
returns-in-Err c = λ n lt e.
    let whole : c.args.key.now ≡ codes "claim-" ++ c.in-Some.text.now = search rules in
    let text : c.in-Some.text.now ≡ decimal n = tail_of c.args.key.now c.in-Some.text.now n whole e in
    ok≢err n c.in-Err.field-0 (parse-decimal 32 n c.in-Some.text.now _ lt (omega (arith, lt)) text c.in-Err.ensures.value.0)

pub returns-else-written : goal.returns-else-written
returns-else-written c = λ n lt e.
    let whole : c.args.key.now ≡ codes "claim-" ++ c.in-Some.text.now = search rules in
    let text : c.in-Some.text.now ≡ decimal n = tail_of c.args.key.now c.in-Some.text.now n whole e in
    let same = ok_is c.in-Ok.number n c.parse.result c.in-Ok.is (parse-decimal 32 n c.in-Some.text.now c.parse.result lt (omega (arith, lt)) text c.parse.ensures.value.0) in
    let written = text ∙ ap decimal (sym same) in
    let read = c.format.ensures.text ∙ sym written in
    true≢false (sym ((bytes_eq-Decides c.format.result.now c.in-Some.text.now).1 read) ∙ sym c.eq-written.ensures ∙ c.if-written.false)
