-- What a document of grants has.
use Rattle.std.specs.Prelude.{ℕ, pos, List, [], ◌∷◌, ◌++◌, length, flat_map, codes, decimal}
use Rattle.cf_base.specs.Common.{money_of}
use Rattle.cf_grants.specs.declared.grant.Grant.{Grant}

-- a grant, on a line
abbrev pub grant_line : Grant → List ℕ
grant_line g =
    (codes "grant " ++ decimal g.id)
    ++ ((codes ": source " ++ decimal g.source) ++ ((codes ", payer " ++ decimal g.payer)
    ++ ((codes ", award " ++ money_of (pos g.award))
    ++ ((codes ", rate_bp " ++ decimal g.rate_bp)
    ++ ((codes ", lines " ++ decimal (length g.lines)) ++ 10 ∷ [])))))

abbrev pub grants_text : List Grant → List ℕ
grants_text grants = flat_map grant_line grants

-- how many there are, and a line each
abbrev pub document_text : List Grant → List ℕ
document_text grants = (codes "grants: " ++ decimal (length grants)) ++ (10 ∷ grants_text grants)
