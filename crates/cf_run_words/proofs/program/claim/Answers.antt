use Rattle.std.proofs.Common.{[], ◌∷◌, codes}
use Rattle.cf_base.proofs.Common.{IfOk-weaker}
use Rattle.clap.specs.Words.{new_rule}
use Rattle.cf_run_words.proofs.Added.{told_more, local_more}
use Rattle.cf_run_words.proofs.program.claim.Goals as goal

pub returns-clause-told : goal.returns-clause-told
returns-clause-told c =
    let one = told_more c.new.result c.in_ok-arg.field-0 c.new-2.result (codes "claim") [] (new_rule (codes "grant")) c.in_ok-arg.ensures c.new-2.ensures.optional.1 c.new-2.ensures.rule c.new.ensures.app in
    let two =
    told_more c.in_ok-arg.field-0 c.in_ok-arg-2.field-0 c.new-3.result (codes "claim") (new_rule (codes "grant") ∷ []) (new_rule (codes "date")) c.in_ok-arg-2.ensures c.new-3.ensures.optional.1
    c.new-3.ensures.rule one in
    IfOk-weaker c.arg-3.result _ _
    (λ r h. told_more c.in_ok-arg-2.field-0 r c.new-4.result (codes "claim") (new_rule (codes "grant") ∷ new_rule (codes "date") ∷ []) (new_rule (codes "desk")) h c.new-4.ensures.optional.1 c.new-4.ensures.rule two)
    c.arg-3.ensures

pub returns-clause-local : goal.returns-clause-local
returns-clause-local c =
    let one = local_more c.new.result c.in_ok-arg.field-0 c.new-2.result c.in_ok-arg.ensures c.new-2.ensures.optional.1 c.new.ensures.local in
    let two = local_more c.in_ok-arg.field-0 c.in_ok-arg-2.field-0 c.new-3.result c.in_ok-arg-2.ensures c.new-3.ensures.optional.1 one in
    IfOk-weaker c.arg-3.result _ _ (λ r h. local_more c.in_ok-arg-2.field-0 r c.new-4.result h c.new-4.ensures.optional.1 two) c.arg-3.ensures
