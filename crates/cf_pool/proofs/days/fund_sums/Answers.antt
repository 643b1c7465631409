use Rattle.std.proofs.Common.{rules, ◌≡◌, ◌+ℤ◌, ℤ, List, None, pos, get_or, take, sym, ap, ◌∙◌, arith, w16}
use Rattle.cf_base.proofs.Common.{w128, to_z-of_z, to_z_pos}
use Rattle.jiff_core.specs.Calendar.{days_in_month}
use Rattle.cf_pool.proofs.Tables.{table, no_table, entry_fits, more_fits, table_more, table_same, whole_table}
use Rattle.cf_pool.proofs.days.fund_sums.Goals as goal
use Rattle.cf_pool.proofs.days.fund_sums.Goals.{in-Some, in_default}

pub loop-change-init : goal.loop-change-init
loop-change-init c = rw (no_table c.args.month c.days_in_month-length.result c.args.funds.now) (search rules)

pub overflow_add-index_mut : goal.overflow_add-index_mut
overflow_add-index_mut c =
    let moves = c.args.moves.now in
    let m = c.args.month in
    let n = c.days_in_month-length.result in
    let at = sym c.place_of.ensures ∙ c.in-Some.is in
    let old = c.index_mut.result.now in
    let is : old ≡ get_or (table (take c.loop-change.change-index moves) m n c.args.funds.now) c.in-Some.place old =
    c.index_mut.ensures.value ∙ ap (λ (xs : List ℤ). get_or xs c.in-Some.place old) c.loop-change.invariant in
    let old_fits = entry_fits moves m n c.loop-change.change-index c.args.funds.now c.in-Some.place _ old c.days_in_month-length.ensures.high c.requires.few at is in
    rw (to_z-of_z w128 old old_fits, to_z-of_z w128 c.part_of.result (record { sfits = c.part_of.type_inv }))
    (more_fits moves m n c.loop-change.change-index c.args.funds.now c.in-Some.place _ old c.part_of.result c.days_in_month-length.ensures.high c.requires.few c.loop-change-test.true at is c.part_of.ensures)

pub loop-change-preserved : goal.loop-change-preserved
loop-change-preserved c =
    elim c.match-place_of.branch [
      | in-Some w ↦
          let moves = c.args.moves.now in
          let m = c.args.month in
          let n = c.days_in_month-length.result in
          let i = c.loop-change.change-index in
          let funds = c.args.funds.now in
          let k = w.in-Some.place in
          let at = sym c.place_of.ensures ∙ w.in-Some.is in
          let old = w.index_mut.result.now in
          let is : old ≡ get_or (table (take i moves) m n funds) k old = w.index_mut.ensures.value ∙ ap (λ (xs : List ℤ). get_or xs k old) c.loop-change.invariant in
          let old_fits = entry_fits moves m n i funds k _ old c.days_in_month-length.ensures.high c.requires.few at is in
          let fits = more_fits moves m n i funds k _ old w.part_of.result c.days_in_month-length.ensures.high c.requires.few c.loop-change-test.true at is w.part_of.ensures in
          rw (w.sums-is, to_z-of_z w128 old old_fits, to_z-of_z w128 w.part_of.result (record { sfits = w.part_of.type_inv }), to_z-of_z w128 (old +ℤ w.part_of.result) fits, c.loop-change.invariant)
          (table_more moves m n i funds k _ old w.part_of.result c.requires.rising c.loop-change-test.true at is w.part_of.ensures)
      | in_default w ↦
          let none : c.place_of.result ≡ None = search rules in
          rw (w.sums-is, c.loop-change.invariant)
          (table_same c.args.moves.now c.args.month c.days_in_month-length.result c.loop-change.change-index c.args.funds.now _ c.loop-change-test.true (sym c.place_of.ensures ∙ none))
    ]

pub returns : goal.returns
returns c =
    let m = c.args.month in
    let length : c.days_in_month-length.result ≡ days_in_month (pos m.year) m.month =
    c.days_in_month-length.ensures.value ∙ ap (λ y. days_in_month y m.month) (to_z_pos w16 m.year (omega arith)) in
    c.loop-change.invariant ∙ ap (λ n. table (take c.loop-change.change-index c.args.moves.now) m n c.args.funds.now) length
    ∙ whole_table c.args.moves.now m c.loop-change.change-index c.args.funds.now c.loop-change-test.false
