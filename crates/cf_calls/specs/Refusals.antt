-- The place of each refusal in the order of the rules, its name, and the refusal of a control line
-- that has too little room.
use Rattle.std.specs.Prelude.{ℕ, ◌-◌, ℤ, pos, int_lt, Bool, if◌then◌else◌, ◌&&◌, List, [], ◌∷◌, slice_index_or, codes, Option, Some, None}
use Rattle.cf_calls.specs.declared.refusal.Refusal.{Refusal}
use Rattle.cf_calls.specs.declared.refusal.Refusal.TheVariants as refusal

abbrev pub number_of : Refusal → ℕ
number_of (refusal.DeskUnknown d) = 1
number_of (refusal.Ahead a l) = 2
number_of (refusal.KeyReused w) = 3
number_of (refusal.NotThisDesk r) = 4
number_of (refusal.HistoryFull l) = 5
number_of (refusal.AmountRange a) = 6
number_of (refusal.UnknownName k i) = 7
number_of (refusal.PeriodClosed m) = 8
number_of (refusal.YearNotOpen y) = 9
number_of (refusal.YearClosed y) = 10
number_of (refusal.Adopted w) = 11
number_of (refusal.NotAdopted f y) = 12
number_of (refusal.DocState k n s) = 13
number_of (refusal.SameHand d) = 14
number_of (refusal.NotOnOrder o i) = 15
number_of (refusal.OverOpen o) = 16
number_of (refusal.OverReceivable l) = 17
number_of (refusal.AssetState a s) = 18
number_of (refusal.NotDue d) = 19
number_of (refusal.LeaveShort l) = 20
number_of (refusal.MonthOrder m) = 21
number_of (refusal.DebtDue b d) = 22
number_of (refusal.WindowOpen m) = 23
number_of (refusal.Exceeds l a r) = 24
number_of (refusal.CashShort f c a) = 25

-- the names of the refusals, in that order
abbrev pub refusal_names : List (List ℕ)
refusal_names =
    codes "DeskUnknown" ∷ codes "Ahead" ∷ codes "KeyReused" ∷ codes "NotThisDesk"
    ∷ codes "HistoryFull" ∷ codes "AmountRange" ∷ codes "UnknownName"
    ∷ codes "PeriodClosed" ∷ codes "YearNotOpen" ∷ codes "YearClosed" ∷ codes "Adopted"
    ∷ codes "NotAdopted" ∷ codes "DocState" ∷ codes "SameHand"
    ∷ codes "NotOnOrder" ∷ codes "OverOpen" ∷ codes "OverReceivable" ∷ codes "AssetState"
    ∷ codes "NotDue" ∷ codes "LeaveShort" ∷ codes "MonthOrder"
    ∷ codes "DebtDue" ∷ codes "WindowOpen" ∷ codes "Exceeds" ∷ codes "CashShort" ∷ []

-- the name at a place, counted from 1
abbrev pub name_at : ℕ → List ℕ
name_at n = slice_index_or refusal_names (n - 1) []

abbrev pub name_of : Refusal → List ℕ
name_of r = name_at (number_of r)

-- ---- room (GASB Codification 1700: budgetary control)

abbrev pub exceeds : ℤ → ℤ → Bool
exceeds asked room = int_lt (pos 0) asked && int_lt room asked

-- the refusal of a line of which so much is asked, in cents
abbrev pub overspends : ℕ → ℤ → ℤ → Option Refusal
overspends line asked room = if exceeds asked room then Some (refusal.Exceeds line asked room)
    else None
