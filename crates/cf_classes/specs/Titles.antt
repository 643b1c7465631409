-- What the three statements are called (own).
use Rattle.std.specs.Prelude.{ℕ, List, codes}

abbrev pub classes_title : List ℕ
classes_title = codes "Fund balance classes"

abbrev pub components_title : List ℕ
components_title = codes "Net position components"

abbrev pub major_title : List ℕ
major_title = codes "Major funds"
