use Rattle.std.proofs.Common.{◌≡◌, Bool, MatchBool, ◌<◌, length, subst, arith, ◌∙◌}
use Rattle.cf_base_lines.proofs.Talking.{puts_long, puts_said}
use Rattle.cf_base_lines.proofs.reply.put_line.Goals as goal

pub returns-then-line-clause-puts : goal.returns-then-line-clause-puts
returns-then-line-clause-puts g c = λ text is.
    puts_long g.O.Office.answers c.args.office.now text c.args.out.now.items c.put_long.new.out.items
    (subst (λ (long : Bool). MatchBool long (262144 < length text) (c.args.line.now.bytes.items ≡ text)) c.if-line.true is) c.put_long.ensures.text

pub returns-else-line-clause-puts : goal.returns-else-line-clause-puts
returns-else-line-clause-puts g c = λ text is.
    puts_said g.O.Office.answers c.args.office.now text c.as_slice.result.now c.answer.new.self c.args.out.now.items c.answer.new.out.items
    (c.as_slice.ensures.value ∙ subst (λ (long : Bool). MatchBool long (262144 < length text) (c.args.line.now.bytes.items ≡ text)) c.if-line.false is)
    (omega (arith, c.args.line.now.short, c.as_slice.ensures.len)) c.answer.ensures.answered
