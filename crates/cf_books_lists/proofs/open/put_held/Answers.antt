use Rattle.std.proofs.Common.{◌+◌, Bool, ℕ, List, Some, None, drop, refl, rules}
use Rattle.cf_model.specs.Common.{LineAmount}
use Rattle.cf_books_lists.specs.Open.{held_text, part_text}
use Rattle.cf_books_lists.proofs.Next.{next_written}
use Rattle.cf_books_lists.proofs.open.put_held.Goals as goal

pub loop-item-preserved : goal.loop-item-preserved
loop-item-preserved c =
    let plan = c.args.chart.now in
    let e = c.args.entry.now in
    let items = c.args.items.now in
    let i = c.loop-item.item-index in
    let at = c.loop-item.place + 1 in
    let new : LineAmount → Bool → List ℕ = λ x csv. part_text csv plan e (record { item = at; line = Some x.line; year = Some c.args.year; amount = x.amount; next = None; due = None }) in
    let rest : LineAmount → Bool → List ℕ = λ x csv. held_text csv plan e c.args.year (at + 1) (drop (i + 1) items) in
    record {
      text =
          next_written new rest (held_text c.loop-item.out.csv plan e c.args.year at) items i _ c.loop-item.out c.put_part.new.out _ c.loop-item-test.true refl c.in_ok-put_part.ensures (λ x. refl)
          c.loop-item.invariant.text;
      place = search rules;
    }
