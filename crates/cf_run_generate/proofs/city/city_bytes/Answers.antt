use Rattle.std.proofs.Common.{rules}
use Rattle.cf_run_generate.specs.Generated.{chart_text}
use Rattle.cf_run_generate.proofs.city.city_bytes.Goals as goal

pub returns : goal.returns
unfolding chart_text
returns c = search rules
