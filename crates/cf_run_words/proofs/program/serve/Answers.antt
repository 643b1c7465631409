use Rattle.std.proofs.Common.{◌∙◌, [], ◌∷◌, ap, codes, Bool, Some}
use Rattle.cf_base.proofs.Common.{IfOk-weaker}
use Rattle.clap.specs.Words.{Rule, rule_of}
use Rattle.clap.specs.declared.builder.arg.Arg.{Arg}
use Rattle.cf_run_words.specs.CommandLine.{option_rule}
use Rattle.cf_run_words.proofs.Added.{told_more, local_more}
use Rattle.cf_run_words.proofs.program.serve.Goals as goal

abbrev global : Arg → Bool
global a = a.global

pub returns-clause-told : goal.returns-clause-told
returns-clause-told c =
    let port = ap rule_of c.long.ensures ∙ ap (λ (r : Rule). record r { long = Some (codes "port") }) c.new-2.ensures.rule in
    let doors = ap rule_of c.long-2.ensures ∙ ap (λ (r : Rule). record r { long = Some (codes "doors") }) c.new-3.ensures.rule in
    let links = ap rule_of c.long-3.ensures ∙ ap (λ (r : Rule). record r { long = Some (codes "links") }) c.new-4.ensures.rule in
    let one = told_more c.new.result c.in_ok-arg.field-0 c.long.result (codes "serve") [] (option_rule (codes "port")) c.in_ok-arg.ensures (ap global c.long.ensures ∙ c.new-2.ensures.optional.1) port c.new.ensures.app in
    let two = told_more c.in_ok-arg.field-0 c.in_ok-arg-2.field-0 c.long-2.result (codes "serve") (option_rule (codes "port") ∷ []) (option_rule (codes "doors")) c.in_ok-arg-2.ensures (ap global c.long-2.ensures ∙ c.new-3.ensures.optional.1) doors one in
    IfOk-weaker c.arg-3.result _ _ (λ r h. told_more c.in_ok-arg-2.field-0 r c.long-3.result (codes "serve") (option_rule (codes "port") ∷ option_rule (codes "doors") ∷ []) (option_rule (codes "links")) h (ap global c.long-3.ensures ∙ c.new-4.ensures.optional.1) links two) c.arg-3.ensures

pub returns-clause-local : goal.returns-clause-local
returns-clause-local c =
    let one = local_more c.new.result c.in_ok-arg.field-0 c.long.result c.in_ok-arg.ensures (ap global c.long.ensures ∙ c.new-2.ensures.optional.1) c.new.ensures.local in
    let two = local_more c.in_ok-arg.field-0 c.in_ok-arg-2.field-0 c.long-2.result c.in_ok-arg-2.ensures (ap global c.long-2.ensures ∙ c.new-3.ensures.optional.1) one in
    IfOk-weaker c.arg-3.result _ _ (λ r h. local_more c.in_ok-arg-2.field-0 r c.long-3.result h (ap global c.long-3.ensures ∙ c.new-4.ensures.optional.1) two) c.arg-3.ensures
