use Rattle.std.proofs.Common.{◌+◌, Bool, ℕ, List, drop, refl, rules}
use Rattle.cf_model.specs.Common.{OrderItemShown}
use Rattle.cf_books_lists.specs.Open.{item_text, items_text}
use Rattle.cf_books_lists.proofs.Next.{next_written}
use Rattle.cf_books_lists.proofs.open.put_items.Goals as goal

pub loop-item-preserved : goal.loop-item-preserved
loop-item-preserved c =
    let plan = c.args.chart.now in
    let e = c.args.entry.now in
    let items = c.args.items.now in
    let i = c.loop-item.item-index in
    let at = c.loop-item.place + 1 in
    let new : OrderItemShown → Bool → List ℕ = λ x csv. item_text csv plan e at x x.state in
    let rest : OrderItemShown → Bool → List ℕ = λ x csv. items_text csv plan e (at + 1) (drop (i + 1) items) in
    record {
      text =
          next_written new rest (items_text c.loop-item.out.csv plan e at) items i _ c.loop-item.out c.put_item.new.out _ c.loop-item-test.true refl c.in_ok-put_item.ensures (λ x. refl)
          c.loop-item.invariant.text;
      place = search rules;
    }
