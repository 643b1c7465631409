-- Tables that were taken go on standing for the list.
use Rattle.std.proofs.Common.{◌≡◌, ℕ, ◌+◌, ◌<◌, ◌%◌, Bool, true, false, if◌then◌else◌, List, [], ◌∷◌, ◌++◌, Option, Some, None, is_some, refl, sym, ap, subst, ◌∙◌, arith, append-nil, append_assoc, count_by}
use Rattle.cf_base.proofs.Common.{sum_by-cons}
use Rattle.atomic_table.specs.Seated.{TableId}
use Rattle.cf_model.specs.Common.{Act, Entry, LineNumbers, IsLegal, IsLegalAfter, stripe_of, touches, entry_touches}
use Rattle.cf_chart.specs.Common.{Plan}
use Rattle.cf_budget.specs.declared.changes.LineChange.{LineChange}
use Rattle.cf_budget.specs.declared.row.Row.{Row}
use Rattle.cf_budget.specs.Changes.{Applies}
use Rattle.cf_budget.specs.Tables.{Table, Tables, table_of, has_stripe, has_line, row_at, row_plus, zero_row, SameRows, SameStripes}
use Rattle.cf_budget.proofs.Rows.{plus_zero}
use Rattle.cf_model.proofs.Common.{numbers_stay_after}
use Rattle.cf_registers.specs.Lines.{LendsTouched}
use Rattle.cf_registers.specs.Moved.{AreTablesOf, row_of}
use Rattle.cf_office.proofs.Tied.{row_push}
use Rattle.cf_journal_book.specs.Archives.{IsOwed}
use Rattle.cf_turns.specs.Lists.{TaggedEntry}
use Rattle.cf_turns.specs.States.{PassState}
use Rattle.cf_turns.specs.Touching.{touch_count}
use Rattle.cf_hall_names.specs.Following.{Follows, AreTaken, AllFollow}
use Rattle.cf_hall_names.specs.Lists.{entries_of, tie_at, total_at}
use Rattle.cf_hall.specs.TakenState.{IsTakenStripe, AreTakenStripes, AllSeen}
use Rattle.cf_hall_names.proofs.Eight.{eight}
use Rattle.cf_hall_names.proofs.Entries.{entries_append, entries_push}

-- ---- lists of entries with passes

pub counts_entries : (t : Entry → Bool) (list : List TaggedEntry) → touch_count t list ≡ count_by t (entries_of list)
counts_entries t [] = refl
counts_entries t (x ∷ xs) =
    sum_by-cons (λ (y : TaggedEntry). if t y.0 then 1 else 0) x xs
    ∙ ap (λ n. (let one : ℕ = if t x.0 then 1 else 0 in one) + n) (counts_entries t xs)
    ∙ sym (sum_by-cons (λ (y : Entry). if t y then 1 else 0) x.0 (entries_of xs))

legal_split : (plan : Plan) (seen xs ys : List Entry) → IsLegalAfter plan seen (xs ++ ys) → IsLegalAfter plan seen xs × IsLegalAfter plan (seen ++ xs) ys
legal_split plan seen [] ys l = (tt, subst (λ (h : List Entry). IsLegalAfter plan h ys) (sym (append-nil seen)) l)
legal_split plan seen (x ∷ xs) ys l =
    let r = legal_split plan (seen ++ x ∷ []) xs ys l.1 in
    ((l.0, r.0), subst (λ (h : List Entry). IsLegalAfter plan h ys) (append_assoc seen (x ∷ []) xs) r.1)

-- ---- a stripe that no entry touches

abbrev row_by : LineNumbers → Row
row_by n = record { original = n.original; appropriated = n.appropriated; held = n.held; encumbered = n.encumbered; expended = n.expended }

pub row_quiet : (plan : Plan) (xs rest ys : List TaggedEntry) (line year : ℕ) → IsLegal plan (entries_of ys) → xs ++ rest ≡ ys → touch_count (entry_touches plan (stripe_of line)) rest ≡ 0 →
    row_of plan (entries_of ys) line year ≡ row_of plan (entries_of xs) line year
row_quiet plan xs rest ys line year legal is none =
    let same : entries_of ys ≡ entries_of xs ++ entries_of rest = ap entries_of (sym is) ∙ entries_append xs rest in
    let parts = legal_split plan [] (entries_of xs) (entries_of rest) (subst (IsLegal plan) same legal) in
    ap (λ (h : List Entry). row_of plan h line year) same
    ∙ ap row_by (numbers_stay_after plan (entries_of xs) (entries_of rest) line year parts.0 parts.1 (sym (counts_entries (entry_touches plan (stripe_of line)) rest) ∙ none))

-- ---- the ties see the whole list

module _ (table : TableId) (plan : Plan) where
  caught_one : (k : ℕ) (lines : Tables) (list : List TaggedEntry) (old new : Option PassState) → IsLegal plan (entries_of list) → ((p : PassState) → old ≡ Some p → IsTakenStripe table plan k lines [] p) →
      Follows (entry_touches plan k) 0 old list new → (q : PassState) → new ≡ Some q → IsTakenStripe table plan k lines [] q × (q.seen ≡ list)
  caught_one k lines list None new legal stands f q is = absurd (none_some (sym f ∙ is))
    where
      none_some : None ≡ Some q → ⊥
      none_some e = cc
  caught_one k lines list (Some p) new legal stands f q is =
      let one : f.0 ≡ q = same_some f.0 q (sym f.1 ∙ is) in
      let was = stands p refl in
      let grows = f.2.grows in
      let now : f.0.seen ≡ list = f.2.seen in
      let taken : IsTakenStripe table plan k lines [] f.0 = record {
        own = f.2.table ∙ was.own;
        there = was.there;
        rows = λ line year at.
            was.rows line year at
            ∙ sym (row_quiet plan p.seen grows.0 list line year legal grows.1 (ap (λ (n : ℕ). touch_count (entry_touches plan n) grows.0) at ∙ grows.2))
            ∙ ap (λ (l : List TaggedEntry). row_of plan (entries_of l) line year) (sym now);
      } in
      (subst (IsTakenStripe table plan k lines []) one taken, ap (λ (x : PassState). x.seen) (sym one) ∙ now)
    where
      same_some : (a b : PassState) → Some a ≡ Some b → a ≡ b
      same_some a b e = cc

  -- a tie that is away stays away, and one that is there stays there
  away_one : (k many : ℕ) (lines : Tables) (list : List TaggedEntry) (old new : Option PassState) → (old ≡ None → table_of lines k ≡ None) → Follows (entry_touches plan k) many old list new →
      new ≡ None → table_of lines k ≡ None
  away_one k many lines list None new away f none = away refl
  away_one k many lines list (Some p) new away f none = absurd (some_none (sym f.1 ∙ none))
    where
      some_none : Some f.0 ≡ None → ⊥
      some_none e = cc

  pub caught_up : (lines : Tables) (list : List TaggedEntry) (ties ties' : List (Option PassState)) (more : List ℕ) → IsLegal plan (entries_of list) → ((k : ℕ) → k < 8 → total_at more k ≡ 0) →
      AreTakenStripes table plan lines None ties → AllFollow plan more ties list ties' → AreTakenStripes table plan lines None ties' × AllSeen list ties'
  caught_up lines list ties ties' more legal none t follow =
      let quiet : (k : ℕ) → k < 8 → Follows (entry_touches plan k) 0 (tie_at ties k) list (tie_at ties' k) =
      λ k l. subst (λ (n : ℕ). Follows (entry_touches plan k) n (tie_at ties k) list (tie_at ties' k)) (none k l) (follow k l) in
      let each : (k : ℕ) → k < 8 → (q : PassState) → tie_at ties' k ≡ Some q → IsTakenStripe table plan k lines [] q × (q.seen ≡ list) =
      λ k l. caught_one k lines list (tie_at ties k) (tie_at ties' k) legal (t.stripes k l) (quiet k l) in (
        record {
          stripes = λ k l q is. (each k l q is).0;
          away = λ k l. away_one k 0 lines list (tie_at ties k) (tie_at ties' k) (t.away k l) (quiet k l);
          can = tt;
        },
        λ k l q is. (each k l q is).1,
      )

  -- so the tables are those of the list
  pub tables_of : (lines : Tables) (list : List TaggedEntry) (ties : List (Option PassState)) → AreTakenStripes table plan lines None ties → AllSeen list ties → AreTablesOf plan (entries_of list) lines
  tables_of lines list ties t seen line year there = by_tie (tie_at ties (line % 8)) refl
    where
      below : line % 8 < 8
      below = omega arith

      is_away : table_of lines (line % 8) ≡ None → has_line lines line ≡ true → ⊥
      is_away none has = clash (sym (ap is_some none) ∙ has)
        where
          clash : false ≡ true → ⊥
          clash e = cc

      by_tie : (o : Option PassState) → tie_at ties (line % 8) ≡ o → row_at lines line year ≡ row_of plan (entries_of list) line year
      by_tie None is = absurd (is_away (t.away (line % 8) below is) there)
      by_tie (Some p) is =
          let s = t.stripes (line % 8) below p is in
          sym (plus_zero (row_at lines line year)) ∙ s.rows line year refl ∙ ap (λ (l : List TaggedEntry). row_of plan (entries_of l) line year) (seen (line % 8) below p is)

  pub kept : (lines lines' : Tables) (ties : List (Option PassState)) → SameRows lines lines' → SameStripes lines lines' → AreTakenStripes table plan lines None ties → AreTakenStripes table plan lines' None ties
  kept lines lines' ties same stripes t = record {
    stripes = λ k l p is. let s = t.stripes k l p is in record {
      own = s.own;
      there = stripes k ∙ s.there;
      rows = λ line year at. ap (λ (r : Row). row_plus r zero_row) (same line year) ∙ s.rows line year at;
    };
    away = λ k l none. still_away k (t.away k l none);
    can = tt;
  }
    where
      no_table : (o : Option Table) → is_some o ≡ false → o ≡ None
      no_table None e = refl
      no_table (Some x) e = cc

      still_away : (k : ℕ) → table_of lines k ≡ None → table_of lines' k ≡ None
      still_away k none = no_table (table_of lines' k) (stripes k ∙ ap is_some none)

  -- ---- an entry is added

  owed_one : (k : ℕ) (lines : Tables) (list list' : List TaggedEntry) (e : Entry) (n many : ℕ) (changes : List LineChange) (old new : Option PassState) → IsLegal plan (entries_of list) →
      IsOwed plan (entries_of list) e lines changes → list' ≡ list ++ (e, n) ∷ [] →
      ((p : PassState) → old ≡ Some p → IsTakenStripe table plan k lines [] p) → ((p : PassState) → old ≡ Some p → p.seen ≡ list) →
      Follows (entry_touches plan k) many old list' new → (q : PassState) → new ≡ Some q → IsTakenStripe table plan k lines changes q × (q.seen ≡ list')
  owed_one k lines list list' e n many changes None new legal owed is stands seen f q at = absurd (none_some (sym f ∙ at))
    where
      none_some : None ≡ Some q → ⊥
      none_some x = cc
  owed_one k lines list list' e n many changes (Some p) new legal owed is stands seen f q at =
      let one : f.0 ≡ q = same_some f.0 q (sym f.1 ∙ at) in
      let was = stands p refl in
      let now : f.0.seen ≡ list' = f.2.seen in
      let taken : IsTakenStripe table plan k lines changes f.0 = record {
        own = f.2.table ∙ was.own;
        there = was.there;
        rows = λ line year on.
            let before : row_at lines line year ≡ row_of plan (entries_of list) line year =
            sym (plus_zero (row_at lines line year)) ∙ was.rows line year on ∙ ap (λ (l : List TaggedEntry). row_of plan (entries_of l) line year) (seen p refl) in
            (λ i. row_plus (before i) (owed.make.made line year i))
            ∙ row_push plan (entries_of list) e line year legal owed.adds
            ∙ ap (λ (h : List Entry). row_of plan h line year) (sym (entries_push list e n) ∙ ap entries_of (sym is))
            ∙ ap (λ (l : List TaggedEntry). row_of plan (entries_of l) line year) (sym now);
      } in
      (subst (IsTakenStripe table plan k lines changes) one taken, ap (λ (x : PassState). x.seen) (sym one) ∙ now)
    where
      same_some : (a b : PassState) → Some a ≡ Some b → a ≡ b
      same_some a b x = cc

  pub owing : (lines : Tables) (list list' : List TaggedEntry) (e : Entry) (n : ℕ) (more : List ℕ) (changes : List LineChange) (ties ties' : List (Option PassState)) → IsLegal plan (entries_of list) →
      IsOwed plan (entries_of list) e lines changes → list' ≡ list ++ (e, n) ∷ [] →
      AreTakenStripes table plan lines None ties → AllSeen list ties → AllFollow plan more ties list' ties' → AreTakenStripes table plan lines (Some changes) ties' × AllSeen list' ties'
  owing lines list list' e n more changes ties ties' legal owed is t seen follow =
      let each : (k : ℕ) → k < 8 → (q : PassState) → tie_at ties' k ≡ Some q → IsTakenStripe table plan k lines changes q × (q.seen ≡ list') =
      λ k l. owed_one k lines list list' e n (total_at more k) changes (tie_at ties k) (tie_at ties' k) legal owed is (t.stripes k l) (seen k l) (follow k l) in (
        record {
          stripes = λ k l q at. (each k l q at).0;
          away = λ k l. away_one k (total_at more k) lines list' (tie_at ties k) (tie_at ties' k) (t.away k l) (follow k l);
          can = owed.can;
        },
        λ k l q at. (each k l q at).1,
      )

  -- what is owed is done
  pub finished : (lines lines' : Tables) (changes : List LineChange) (ties : List (Option PassState)) → Applies lines lines' changes → SameStripes lines lines' →
      AreTakenStripes table plan lines (Some changes) ties → AreTakenStripes table plan lines' None ties
  finished lines lines' changes ties applies stripes t = record {
    stripes = λ k l p is. let s = t.stripes k l p is in record {
      own = s.own;
      there = stripes k ∙ s.there;
      rows = λ line year at. plus_zero (row_at lines' line year) ∙ applies line year ∙ s.rows line year at;
    };
    away = λ k l none. still_away k (t.away k l none);
    can = tt;
  }
    where
      no_table : (o : Option Table) → is_some o ≡ false → o ≡ None
      no_table None e = refl
      no_table (Some x) e = cc

      still_away : (k : ℕ) → table_of lines k ≡ None → table_of lines' k ≡ None
      still_away k none = no_table (table_of lines' k) (stripes k ∙ ap is_some none)

  -- ---- the counts

  -- a stripe that is away isn't touched
  pub taken_more : (lines : Tables) (ties : List (Option PassState)) (act : Act) (more : List ℕ) → AreTakenStripes table plan lines None ties → LendsTouched plan (has_line lines) act →
      ((k : ℕ) → k < 8 → total_at more k ≡ (if touches plan k act then 1 else 0)) → AreTaken ties more
  taken_more lines ties act more t lends is =
      eight (λ k. tie_at ties k ≡ None → total_at more k ≡ 0)
      (each 0 (omega arith) refl) (each 1 (omega arith) refl) (each 2 (omega arith) refl) (each 3 (omega arith) refl)
      (each 4 (omega arith) refl) (each 5 (omega arith) refl) (each 6 (omega arith) refl) (each 7 (omega arith) refl)
    where
      clash : false ≡ true → ⊥
      clash e = cc

      by_test : (k : ℕ) → k < 8 → stripe_of k ≡ k → tie_at ties k ≡ None → (b : Bool) → touches plan k act ≡ b → (let n : ℕ = if b then 1 else 0 in n) ≡ 0
      by_test k l at none false e = refl
      by_test k l at none true e =
          let there : has_stripe lines (stripe_of k) ≡ true = lends k (ap (λ (s : ℕ). touches plan s act) at ∙ e) in
          absurd (clash (sym (ap is_some (t.away k l none)) ∙ ap (has_stripe lines) (sym at) ∙ there))

      each : (k : ℕ) → k < 8 → stripe_of k ≡ k → tie_at ties k ≡ None → total_at more k ≡ 0
      each k l at none = is k l ∙ by_test k l at none (touches plan k act) refl

  pub taken_own : (lines : Tables) (owed : Option (List LineChange)) (ties : List (Option PassState)) → AreTakenStripes table plan lines owed ties → (k : ℕ) → k < 8 → (p : PassState) → tie_at ties k ≡ Some p → p.table ≡ table
  taken_own lines owed ties t k l p is = (t.stripes k l p is).own
