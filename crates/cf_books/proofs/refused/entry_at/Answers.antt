use Rattle.std.proofs.Common.{arith, ◌≡◌, ◌<◌, ◌+◌, ◌-◌, ◌∷◌, ◌∙◌, ap, sym, length, drop}
use Rattle.cf_journal.specs.Records.{record_len}
use Rattle.cf_books.specs.Answers.{entry_behind}
use Rattle.cf_books.proofs.Behind.{behind_more}
use Rattle.cf_books.proofs.Steps.{drop-item}
use Rattle.cf_books.proofs.refused.entry_at.Goals as goal

pub loop-entry-preserved : goal.loop-entry-preserved
loop-entry-preserved c =
    let entry = c.entry-item.result in
    let entries = c.args.entries.now in
    let i = c.loop-entry.entry-index in
    let below : i < length entries = omega arith in
    let rest : drop i entries ≡ entry ∷ drop (i + 1) entries = sym (drop-item entries i entry below c.entry-item.is) in
    let less : c.saturating_sub-left-in-loop-entry.result ≡ c.loop-entry.left - record_len entry =
    c.saturating_sub-left-in-loop-entry.ensures ∙ ap (λ n. c.loop-entry.left - n) c.record_len.ensures in
    record {
      behind =
          ap (λ n. entry_behind n (c.loop-entry.place + 1) (drop (i + 1) entries)) less
          ∙ sym (behind_more c.loop-entry.left c.loop-entry.place entry (drop (i + 1) entries) (drop i entries) c.if-left-eq0.false rest)
          ∙ c.loop-entry.invariant.behind;
      place = omega arith;
    }
