-- The line numbers of a book go on being those of its history.
use Rattle.std.proofs.Common.{◌≡◌, ◌%◌, List, [], ◌∷◌, ◌++◌, sym, subst, ◌∙◌}
use Rattle.cf_budget.specs.declared.changes.LineChange.{LineChange}
use Rattle.cf_budget.specs.Changes.{Applies}
use Rattle.cf_budget.specs.Tables.{Tables, SameRows, SameStripes}
use Rattle.cf_model.specs.Common.{Entry}
use Rattle.cf_chart.specs.Common.{Plan}
use Rattle.cf_office.proofs.Tied.{tied, tied_same}
use Rattle.cf_journal_book.specs.Archives.{HasAllLines, IsOwed}

-- the same history, by equal values
at_equal : (plan plan' : Plan) (h h' : List Entry) (tables : Tables) → plan' ≡ plan → h' ≡ h → HasAllLines plan h tables → HasAllLines plan' h' tables
at_equal plan plan' h h' tables p e has =
    subst (λ (q : Plan). HasAllLines q h' tables) (sym p) (subst (λ (x : List Entry). HasAllLines plan x tables) (sym e) has)

-- room was made and no number changed
same_lines : (plan : Plan) (h : List Entry) (old new : Tables) → SameRows old new → SameStripes old new → HasAllLines plan h old → HasAllLines plan h new
same_lines plan h old new rows stripes has = record {
  tables_of = tied_same plan h old new has.tables_of rows stripes;
  whole = λ line. stripes (line % 8) ∙ has.whole line;
}

pub kept_lines : (plan plan' : Plan) (h h' : List Entry) (old new : Tables) → plan' ≡ plan → h' ≡ h → SameRows old new → SameStripes old new → HasAllLines plan h old → HasAllLines plan' h' new
kept_lines plan plan' h h' old new p e rows stripes has = at_equal plan plan' h h' new p e (same_lines plan h old new rows stripes has)

-- the owed changes were made
pub added_lines : (plan plan' : Plan) (h h' : List Entry) (e : Entry) (old mid new : Tables) (changes : List LineChange) → plan' ≡ plan → h' ≡ h ++ e ∷ [] → SameRows old mid → SameStripes old mid
    → IsOwed plan h e mid changes → Applies mid new changes → SameStripes mid new → HasAllLines plan h old → HasAllLines plan' h' new
added_lines plan plan' h h' e old mid new changes p hs rows stripes owed applied after has =
    let before = same_lines plan h old mid rows stripes has in
    at_equal plan plan' (h ++ e ∷ []) h' new p hs (record {
      tables_of = tied plan h e mid new changes owed.legal before.tables_of after owed.adds owed.make applied;
      whole = λ line. after (line % 8) ∙ before.whole line;
    })
