-- The three statements on a short history, worked by hand: what the definitions say of it is
-- computed by the checker.
use Rattle.std.specs.Prelude.{◌≡◌, [], ◌∷◌, pos, codes}
use Rattle.cf_classes.specs.Statements.{class_rows, component_rows, major_rows}
use Rattle.cf_model.specs.Common.{moved, town}
use Rattle.cf_statements.specs.Sums.{heading, single}

-- the general fund has 3000 cents and a special revenue fund 2000: what is of neither lease nor
-- bond nor asset is no capital,
-- and each of the two has a tenth
abbrev pub ClassifiesBalances : Type 0
ClassifiesBalances =
    (class_rows town moved 2026
    ≡ heading [] ∷ single (codes "Nonspendable") (pos 0) ∷ single (codes "Restricted") (pos 0)
    ∷ single (codes "Committed") (pos 0)
    ∷ single (codes "Assigned") (pos 0) ∷ single (codes "Unassigned") (pos 3000)
    ∷ single (codes "Fund balance") (pos 3000)
    ∷ heading [] ∷ single (codes "Nonspendable") (pos 0) ∷ single (codes "Restricted") (pos 2000)
    ∷ single (codes "Committed") (pos 0)
    ∷ single (codes "Assigned") (pos 0) ∷ single (codes "Unassigned") (pos 0)
    ∷ single (codes "Fund balance") (pos 2000)
    ∷ single (codes "Total fund balances") (pos 5000) ∷ [])
    × (component_rows town moved 2026
    ≡ single (codes "Net investment in capital assets") (pos 0)
    ∷ single (codes "Restricted") (pos 2000)
    ∷ single (codes "Unrestricted") (pos 3000) ∷ single (codes "Net position") (pos 5000) ∷ [])
    × (major_rows town moved 2026
    ≡ heading [] ∷ single (codes "Assets") (pos 3000) ∷ single (codes "Liabilities") (pos 0)
    ∷ single (codes "Revenues") (pos 5000) ∷ single (codes "Expenditures") (pos 0)
    ∷ heading [] ∷ single (codes "Assets") (pos 2000) ∷ single (codes "Liabilities") (pos 0)
    ∷ single (codes "Revenues") (pos 0) ∷ single (codes "Expenditures") (pos 0)
    ∷ heading (codes "Other governmental funds") ∷ single (codes "Assets") (pos 0)
    ∷ single (codes "Liabilities") (pos 0)
    ∷ single (codes "Revenues") (pos 0) ∷ single (codes "Expenditures") (pos 0)
    ∷ heading (codes "Total") ∷ single (codes "Assets") (pos 5000)
    ∷ single (codes "Liabilities") (pos 0) ∷ single (codes "Revenues") (pos 5000)
    ∷ single (codes "Expenditures") (pos 0) ∷ [])
