use Rattle.std.proofs.Common.{◌+◌, [], ◌∷◌, ℕ, List, get_or, drop, map, Bor}
use Rattle.cf_base.proofs.Common.{at_drop_more}
use Rattle.csv.specs.Records.{fields_of}
use Rattle.cf_books_lists.specs.Records.{guarded}
use Rattle.cf_books_lists.proofs.Next.{next_pushed}
use Rattle.cf_books_lists.proofs.rows.guarded_record.Goals as goal

abbrev all_guarded : List (Bor (List ℕ)) → List (List ℕ)
all_guarded fields = map guarded (map (λ f. f.now) fields)

pub loop-field-preserved : goal.loop-field-preserved
loop-field-preserved c =
    let fields = c.args.fields.now in
    let i = c.loop-field.field-index in
    let none : Bor (List ℕ) = record { ref_ptr = (0, 0); now = [] } in
    let x = get_or fields i none in
    record {
      fields =
          next_pushed (fields_of c.loop-field.row) (guarded x.now ∷ []) (all_guarded (drop (i + 1) fields)) (fields_of c.put_guarded.new.row) (all_guarded (drop i fields)) _
          c.in_ok-put_guarded.ensures.fields (at_drop_more all_guarded fields i none c.loop-field-test.true) c.loop-field.invariant.fields;
      partial = c.in_ok-put_guarded.ensures.partial;
    }
