-- The words of statements.
use Rattle.std.specs.Prelude.{ℕ, List, Option, Some, None, codes, if◌then◌else◌}
use Rattle.std.specs.Str.{bytes_eq}
use Rattle.cf_base.specs.declared.statement.Kind.{Kind}
use Rattle.cf_base.specs.declared.statement.Kind.TheVariants as kind

-- the statement of a word (own rule)
abbrev pub statement_of : List ℕ → Option Kind
statement_of word =
    if bytes_eq word (codes "balance") then Some kind.Balance
    else (if bytes_eq word (codes "operating") then Some kind.Operating
    else (if bytes_eq word (codes "budget") then Some kind.Budget
    else (if bytes_eq word (codes "position") then Some kind.Position
    else (if bytes_eq word (codes "activities") then Some kind.Activities
    else (if bytes_eq word (codes "reconcile") then Some kind.Reconcile
    else (if bytes_eq word (codes "changes") then Some kind.Changes else None))))))
