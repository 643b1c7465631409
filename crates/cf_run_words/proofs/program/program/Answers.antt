use Rattle.std.proofs.Common.{◌∙◌, [], ap, codes, true, Ok}
use Rattle.clap.specs.Words.{App, Shape}
use Rattle.clap.specs.Simple.{app_of_fields, on_top}
use Rattle.cf_run_words.specs.CommandLine.{app, claim_rules, generate_rules, pool_rules, report_rules, serve_rules, ship_rules, shape}
use Rattle.cf_run_words.proofs.Added.{grown, leaf_of}
use Rattle.cf_run_words.proofs.program.program.Goals as goal

abbrev nameless : App → App
nameless = on_top (λ (s : Shape). record s { no_binary_name = true })

abbrev helpless : App → App
helpless = on_top (λ (s : Shape). record s { disable_help_flag = true })

abbrev bare : App → App
bare = on_top (λ (s : Shape). record s { disable_help_subcommand = true })

pub returns : goal.returns
returns c =
    let named = ap app_of_fields c.no_binary_name.ensures ∙ ap nameless c.new.ensures.app in
    let flagless = ap app_of_fields c.disable_help_flag.ensures ∙ ap helpless named in
    let top = ap app_of_fields c.disable_help_subcommand-bare.ensures ∙ ap bare flagless in
    let found = grown (Ok c.disable_help_subcommand-bare.result) (Ok c.new-2.result) c.with-found.result _ (shape (codes "found") []) top (leaf_of (Ok c.new-2.result) (app (codes "found") []) c.new-2.ensures.app c.new-2.ensures.local) c.with-found.ensures in
    let desk = grown (c.with-found.result) (Ok c.new-3.result) c.with-desk.result _ (shape (codes "desk") []) found (leaf_of (Ok c.new-3.result) (app (codes "desk") []) c.new-3.ensures.app c.new-3.ensures.local) c.with-desk.ensures in
    let served = grown (c.with-desk.result) (c.serve.result) c.with-served.result _ (shape (codes "serve") serve_rules) desk (leaf_of (c.serve.result) (app (codes "serve") serve_rules) c.serve.ensures.told c.serve.ensures.local) c.with-served.ensures in
    let reported = grown (c.with-served.result) (c.report.result) c.with-reported.result _ (shape (codes "report") report_rules) served (leaf_of (c.report.result) (app (codes "report") report_rules) c.report.ensures.told c.report.ensures.local) c.with-reported.ensures in
    let generated = grown (c.with-reported.result) (c.generate.result) c.with-generated.result _ (shape (codes "generate") generate_rules) reported (leaf_of (c.generate.result) (app (codes "generate") generate_rules) c.generate.ensures.told c.generate.ensures.local) c.with-generated.ensures in
    let pooled = grown (c.with-generated.result) (c.pool.result) c.with-pooled.result _ (shape (codes "pool") pool_rules) generated (leaf_of (c.pool.result) (app (codes "pool") pool_rules) c.pool.ensures.told c.pool.ensures.local) c.with-pooled.ensures in
    let claimed = grown (c.with-pooled.result) (c.claim.result) c.with-claimed.result _ (shape (codes "claim") claim_rules) pooled (leaf_of (c.claim.result) (app (codes "claim") claim_rules) c.claim.ensures.told c.claim.ensures.local) c.with-claimed.ensures in
    let shipped = grown (c.with-claimed.result) (c.ship.result) c.with-shipped.result _ (shape (codes "ship") ship_rules) claimed (leaf_of (c.ship.result) (app (codes "ship") ship_rules) c.ship.ensures.told c.ship.ensures.local) c.with-shipped.ensures in
    grown (c.with-shipped.result) (Ok c.new-4.result) c.with.result _ (shape (codes "follow") []) shipped (leaf_of (Ok c.new-4.result) (app (codes "follow") []) c.new-4.ensures.app c.new-4.ensures.local) c.with.ensures
