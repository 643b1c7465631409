use Rattle.std.proofs.Common.{◌≡◌, [], ◌++◌, map, drop}
use Rattle.csv.specs.Records.{fields_of, partial_of}
use Rattle.cf_books_lists.specs.Records.{guarded}
use Rattle.cf_books_lists.proofs.rows.guarded_record.Given as goal

-- the fields so far, and those to come
abbrev pub invariant-loop-field : goal.invariant-loop-field
invariant-loop-field l = record {
  fields : fields_of l.row ++ map guarded (map (λ f. f.now) (drop l.field-index l.fields)) ≡ map guarded (map (λ f. f.now) l.fields);
  partial : partial_of l.row ≡ [];
}
