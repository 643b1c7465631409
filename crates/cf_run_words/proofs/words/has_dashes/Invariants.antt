use Rattle.std.proofs.Common.{◌≡◌, drop, map, string_bytes}
use Rattle.cf_base.proofs.Common.{list_any}
use Rattle.cf_run_words.specs.Words.{is_dashes}
use Rattle.cf_run_words.proofs.words.has_dashes.Given as goal

abbrev pub invariant-loop-word : goal.invariant-loop-word
invariant-loop-word l = list_any is_dashes (map string_bytes (drop l.word-index l.words)) ≡ list_any is_dashes (map string_bytes l.words)
