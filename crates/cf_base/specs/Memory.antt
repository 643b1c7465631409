-- What a source in memory has left.
use Rattle.std.specs.Prelude.{ℕ, List, Option, Some, drop}
use Rattle.cf_base.specs.declared.memory.MemSource.{MemSource}

abbrev pub left_of : MemSource → Option (List ℕ)
left_of s = Some (drop s.place s.bytes.items)
