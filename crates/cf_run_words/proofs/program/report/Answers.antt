use Rattle.std.proofs.Common.{◌∙◌, [], ◌∷◌, ap, codes, Bool, Some}
use Rattle.cf_base.proofs.Common.{IfOk-weaker}
use Rattle.clap.specs.Words.{Rule, new_rule, rule_of}
use Rattle.clap.specs.declared.builder.action.ArgAction.TheVariants.{SetTrue}
use Rattle.clap.specs.declared.builder.arg.Arg.{Arg}
use Rattle.cf_run_words.specs.CommandLine.{flag_rule}
use Rattle.cf_run_words.proofs.Added.{told_more, local_more}
use Rattle.cf_run_words.proofs.program.report.Goals as goal

abbrev global : Arg → Bool
global a = a.global

pub returns-clause-told : goal.returns-clause-told
returns-clause-told c =
    let own = ap global c.action.ensures ∙ ap global c.long.ensures ∙ c.new-4.ensures.optional.1 in
    let csv = ap rule_of c.action.ensures ∙ ap (λ (r : Rule). record r { action = Some SetTrue }) (ap rule_of c.long.ensures ∙ ap (λ (r : Rule). record r { long = Some (codes "csv") }) c.new-4.ensures.rule) in
    let one = told_more c.new.result c.in_ok-arg.field-0 c.new-2.result (codes "report") [] (new_rule (codes "year")) c.in_ok-arg.ensures c.new-2.ensures.optional.1 c.new-2.ensures.rule c.new.ensures.app in
    let two =
    told_more c.in_ok-arg.field-0 c.in_ok-arg-2.field-0 c.new-3.result (codes "report") (new_rule (codes "year") ∷ []) (new_rule (codes "kind")) c.in_ok-arg-2.ensures c.new-3.ensures.optional.1
    c.new-3.ensures.rule one in
    IfOk-weaker c.arg-3.result _ _
    (λ r h. told_more c.in_ok-arg-2.field-0 r c.action.result (codes "report") (new_rule (codes "year") ∷ new_rule (codes "kind") ∷ []) (flag_rule (codes "csv")) h own csv two)
    c.arg-3.ensures

pub returns-clause-local : goal.returns-clause-local
returns-clause-local c =
    let own = ap global c.action.ensures ∙ ap global c.long.ensures ∙ c.new-4.ensures.optional.1 in
    let one = local_more c.new.result c.in_ok-arg.field-0 c.new-2.result c.in_ok-arg.ensures c.new-2.ensures.optional.1 c.new.ensures.local in
    let two = local_more c.in_ok-arg.field-0 c.in_ok-arg-2.field-0 c.new-3.result c.in_ok-arg-2.ensures c.new-3.ensures.optional.1 one in
    IfOk-weaker c.arg-3.result _ _ (λ r h. local_more c.in_ok-arg-2.field-0 r c.action.result h own two) c.arg-3.ensures
