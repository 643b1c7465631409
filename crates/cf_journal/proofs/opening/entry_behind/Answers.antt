use Rattle.std.proofs.Common.{◌≡◌, ◌+◌, ◌-◌, ℕ, take, drop, refl, ◌∙◌, ap, arith}
use Rattle.cf_codec.specs.Entries.{read_of}
use Rattle.cf_journal.proofs.Reading.{none_behind}
use Rattle.cf_journal.proofs.opening.entry_behind.Goals as goal

-- a payload of another length than the one that is stated
pub returns-in-Ok-2 : goal.returns-in-Ok-2
returns-in-Ok-2 c =
    let n = c.stated_len-n.result in
    let same : n ≡ 4 + n - 4 = omega arith in (
      refl,
      none_behind c.args.version c.args.behind.now n c.in-Ok.len c.in-Ok.entry c.stated_len-n.ensures.value
          (ap (λ (k : ℕ). read_of c.args.version (take k (drop 4 c.args.behind.now))) same ∙ c.in-Ok.ensures.answer) c.if-len-n.false,
    )
