use Rattle.std.proofs.Common.{◌≡◌, true, refl}
use Rattle.cf_base.proofs.Common.{list_all}
use Rattle.cf_calls.specs.declared.kind.ActKind.{ActKind}
use Rattle.cf_calls.specs.declared.kind.ActKind.TheVariants as kind
use Rattle.cf_calls.specs.Common.{kind_of, word_of}
use Rattle.cf_json_members.specs.Parts.{is_plain}
use Rattle.cf_json_calls.proofs.line.call_word.Goals as goal

word_plain : (k : ActKind) → list_all is_plain (word_of k) ≡ true
word_plain kind.Adopt = refl
word_plain _ = refl

pub returns-clause-plain : goal.returns-clause-plain
returns-clause-plain c = rw (c.row.ensures.word, c.kind.ensures) (word_plain (kind_of c.args.act.now))
