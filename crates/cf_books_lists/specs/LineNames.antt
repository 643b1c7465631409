-- The names of a control line: what part of its department's objects it has, with the fiscal years
-- that it is of where its fund has a later level of control.
use Rattle.std.specs.Prelude.{ℕ, ◌-◌, Bool, true, false, List, [], ◌++◌, Option, Some, None, codes, decimal}
use Rattle.cf_chart.specs.Common.{Plan, object_at}
use Rattle.cf_chart.specs.declared.rows.Fund.{Fund}
use Rattle.cf_model.specs.Common.{LaterLevel, Line, LinePart, Object}
use Rattle.cf_chart.specs.declared.rows.LinePart.TheVariants as part

abbrev pub object_name : Option Object → List ℕ
object_name None = []
object_name (Some o) = o.name

abbrev pub part_text : LinePart → List ℕ
part_text part.Department = codes "all objects"
part_text (part.Class c) = codes "class " ++ decimal c
part_text (part.Object id) = codes "object " ++ decimal id

-- the name of an object, where the line has one alone
abbrev pub part_name : Plan → LinePart → List ℕ
part_name plan (part.Object id) = object_name (object_at plan id)
part_name plan _ = []

abbrev pub later_of : Option Fund → Option LaterLevel
later_of None = None
later_of (Some f) = f.later

-- the fiscal years that a line is of, where its fund has a later level
abbrev pub years_text : Bool → Option LaterLevel → List ℕ
years_text later None = []
years_text false (Some l) = codes " (through " ++ (decimal (l.year - 1) ++ codes ")")
years_text true (Some l) = codes " (from " ++ (decimal l.year ++ codes ")")

abbrev pub part_and_years : Line → Option LaterLevel → List ℕ
part_and_years l later = part_text l.part ++ years_text l.later later
