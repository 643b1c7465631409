use Rattle.std.proofs.Common.{codes}
use Rattle.cf_base.proofs.Common.{IfOk-weaker}
use Rattle.clap.specs.Words.{App, new_rule, with_rule}
use Rattle.cf_books_words.specs.CommandLine.{bare}
use Rattle.cf_books_words.proofs.Added.{added_rule}
use Rattle.cf_books_words.proofs.words.places.Goals as goal

pub returns : goal.returns
returns c =
    let with_one : App = with_rule bare (new_rule (codes "command")) in
    let with_two : App = with_rule with_one (new_rule (codes "first")) in
    let with_three : App = with_rule with_two (new_rule (codes "second")) in
    let one = added_rule c.bare.result c.in_ok-arg.field-0 c.new.result bare (new_rule (codes "command")) c.in_ok-arg.ensures c.new.ensures.optional.1 c.new.ensures.rule c.bare.ensures.told in
    let two = added_rule c.in_ok-arg.field-0 c.in_ok-arg-2.field-0 c.new-2.result with_one (new_rule (codes "first")) c.in_ok-arg-2.ensures c.new-2.ensures.optional.1 c.new-2.ensures.rule one in
    let three = added_rule c.in_ok-arg-2.field-0 c.in_ok-arg-3.field-0 c.new-3.result with_two (new_rule (codes "second")) c.in_ok-arg-3.ensures c.new-3.ensures.optional.1 c.new-3.ensures.rule two in
    IfOk-weaker c.arg-4.result _ _
    (λ p adds. added_rule c.in_ok-arg-3.field-0 p c.new-4.result with_three (new_rule (codes "third")) adds c.new-4.ensures.optional.1 c.new-4.ensures.rule three) c.arg-4.ensures
