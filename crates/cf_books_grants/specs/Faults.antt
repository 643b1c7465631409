-- The fault of a document of grants, in words.
use Rattle.std.specs.Prelude.{ℕ, List, ◌++◌, codes, decimal, Option}
use Rattle.cf_grants.specs.Faults.{word_of}
use Rattle.cf_books_grants.specs.FaultIds.{id_text}
use Rattle.cf_grants.specs.declared.fault.GrantFault.{GrantFault}
use Rattle.cf_grants.specs.declared.fault.GrantFault.TheVariants.{TooLong, NotToml, TooMany, Missing, Bad, Twice, Unknown}

-- the place of a grant, counted from 0, and its id
abbrev pub row_text : ℕ → Option ℕ → List ℕ
row_text at id = (codes "grant " ++ decimal at) ++ id_text id

-- a fault in a row of this id
abbrev pub fault_text : GrantFault → Option ℕ → List ℕ
fault_text TooLong id = codes "longer than 1048576 bytes"
fault_text NotToml id = codes "no TOML document"
fault_text TooMany id = codes "more than 64 grants"
fault_text (Missing at k) id = row_text at id ++ (codes " has no " ++ word_of k)
fault_text (Bad at k) id = row_text at id ++ (codes " has a bad " ++ word_of k)
fault_text (Twice at) id = row_text at id ++ codes " stands twice"
fault_text (Unknown n) id = codes "no grant " ++ decimal n
