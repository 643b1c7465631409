-- Where the rows of documents stand: documents have the numbers 1, 2, 3 ..
use Rattle.std.specs.Prelude.{ℕ, zero, suc, List, slice_index_or}
use Rattle.cf_register_parts.specs.declared.extents.Extent.{Extent}

abbrev pub no_extent : Extent
no_extent = record { first = 0; end = 0 }

-- the extent of a number, and an empty one where there is no such document
abbrev pub extent_at : List Extent → ℕ → Extent
extent_at extents zero = no_extent
extent_at extents (suc n) = slice_index_or extents n no_extent
