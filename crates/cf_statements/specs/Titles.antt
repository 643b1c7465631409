-- What each statement is called (GASB Statement 34; the comparison: GASB Codification 2400; the
-- short forms are own).
use Rattle.std.specs.Prelude.{ℕ, List, codes}
use Rattle.cf_base.specs.declared.statement.Kind.{Kind}
use Rattle.cf_base.specs.declared.statement.Kind.TheVariants as kind

abbrev pub title_of : Kind → List ℕ
title_of kind.Balance = codes "Balance sheet"
title_of kind.Operating = codes "Revenues, expenditures and changes"
title_of kind.Budget = codes "Budgetary comparison"
title_of kind.Position = codes "Net position"
title_of kind.Activities = codes "Activities"
title_of kind.Reconcile = codes "Reconciliation to net position"
title_of kind.Changes = codes "Reconciliation to change in net position"
