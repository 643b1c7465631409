-- The three statements of a history, of a fiscal year, and the laws of their sums.
use Rattle.std.specs.Prelude.{ℕ, List}
use Rattle.cf_model.specs.Common.{Entry, Row, sums_of, recon_shown}
use Rattle.cf_chart.specs.Common.{Plan}
use Rattle.cf_classes.specs.Classes.{ClassesSum, ClassesWithin, classes_rows}
use Rattle.cf_classes.specs.Components as component
use Rattle.cf_classes.specs.Components.{ComponentsSum}
use Rattle.cf_classes.specs.Major as major
use Rattle.cf_classes.specs.Major.{BalancesAre, FundsSum, OthersSum}

abbrev pub class_rows : Plan → List Entry → ℕ → List Row
class_rows plan history year = classes_rows plan (sums_of plan history) year

abbrev pub component_rows : Plan → List Entry → ℕ → List Row
component_rows plan history year =
    component.component_rows plan (sums_of plan history) year (recon_shown plan year history)

abbrev pub major_rows : Plan → List Entry → ℕ → List Row
major_rows plan history year = major.major_rows plan (sums_of plan history) year

-- the classes of each fund sum to its balance, and where that isn't below zero each lies between
-- zero and it; the components sum to net position; assets less liabilities are each fund's balance;
-- the major and the other funds come to the total, and the others are those that aren't major,
-- together
pub record AddUp (plan : Plan) (history : List Entry) (year : ℕ) : Type 0 where
  pub classes : ClassesSum plan (sums_of plan history) year
  pub within : ClassesWithin plan (sums_of plan history) year
  pub components : ComponentsSum plan (sums_of plan history) year (recon_shown plan year history)
  pub balances : BalancesAre plan (sums_of plan history) year
  pub funds : FundsSum plan (sums_of plan history) year
  pub others : OthersSum plan (sums_of plan history) year
