-- What a contract sees of a history whose line numbers are lent.
use Rattle.std.specs.Prelude.{List}
use Rattle.cf_budget.specs.Tables.{Tables}
use Rattle.cf_model.specs.Common.{Entry}
use Rattle.cf_chart.specs.Common.{Plan}

pub record HistoryState : Type 0 where
  pub plan : Plan
  pub entries : List Entry
  pub lines : Tables
