use Rattle.std.proofs.Common.{refl}
use Rattle.std.specs.Fmt.{digits}
use Rattle.cf_http_heads.specs.Answers.{lines_of}
use Rattle.cf_http_heads.proofs.lines.no_memory.Goals as goal

pub returns : goal.returns
unfolding digits lines_of
returns c = refl
