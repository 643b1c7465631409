use Rattle.std.proofs.Common.{drop, arith, refl}
use Rattle.httparse.specs.Ascii.{comma}
use Rattle.cf_http_heads.proofs.FieldLaws.{parts_alone, parts_at}
use Rattle.cf_http_heads.proofs.fields.has_close.Goals as goal

pub returns-then-is_close_word : goal.returns-then-is_close_word
returns-then-is_close_word c =
    let e = parts_at comma c.loop-place.rest.now c.split_at.result.1.now (drop 1 c.split_at.result.1.now) c.in-Some.place c.in-Some.ensures.within c.in-Some.ensures.before c.in-Some.ensures.here c.split_at.ensures.back refl in
    grind (arith, e, c.loop-place.invariant, c.is_close_word.ensures, c.if-is_close_word.true, c.split_at.ensures.front)

pub loop-place-preserved : goal.loop-place-preserved
loop-place-preserved c =
    let e = parts_at comma c.loop-place.rest.now c.split_at.result.1.now c.split_at-in-Some.result.1.now c.in-Some.place c.in-Some.ensures.within c.in-Some.ensures.before c.in-Some.ensures.here c.split_at.ensures.back c.split_at-in-Some.ensures.back in
    grind (arith, e, c.loop-place.invariant, c.is_close_word.ensures, c.if-is_close_word.false, c.split_at.ensures.front)

pub returns : goal.returns
returns c =
    let e = parts_alone comma c.loop-place.rest.now c.in_default.ensures.within in
    grind (arith, e, c.loop-place.invariant, c.is_close_word-2.ensures)
