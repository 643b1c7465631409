-- The reads of a link in memory.
use Rattle.std.proofs.Common.{◌≡◌, ◌≤◌, arith, ℕ, List, [], ◌∷◌, ◌++◌, length, take, map, Some, ◌∙◌, ap, refl, All}
use Rattle.cf_base.proofs.Common.{map-append, take-append-le, take_all, All-head, All-tail}
use Rattle.cf_http.specs.Links.{LinkRead, read_at}
use Rattle.cf_http_links.specs.Memory.{read_by}
use Rattle.cf_http_links.specs.declared.memory.Passed.{Passed}

-- the link takes more, and what it had taken at each read stays
pub reads_kept : (bytes sent more : List ℕ) (reads : List Passed) → All (λ p. p.sent ≤ length sent) reads → map (read_by bytes (sent ++ more)) reads ≡ map (read_by bytes sent) reads
reads_kept bytes sent more [] h = refl
reads_kept bytes sent more (p ∷ ps) h =
    ap (λ (t : List ℕ). read_at (Some (take p.came bytes)) (Some t) ∷ map (read_by bytes (sent ++ more)) ps) (take-append-le p.sent sent more (All-head (λ (q : Passed). q.sent ≤ length sent) p ps h))
    ∙ ap (λ (rs : List LinkRead). read_by bytes sent p ∷ rs) (reads_kept bytes sent more ps (All-tail (λ (q : Passed). q.sent ≤ length sent) p ps h))

-- a read more
pub reads_add : (bytes sent : List ℕ) (place : ℕ) (reads : List Passed)
    → map (read_by bytes sent) (reads ++ record { came = place; sent = length sent } ∷ []) ≡ map (read_by bytes sent) reads ++ read_at (Some (take place bytes)) (Some sent) ∷ []
reads_add bytes sent place reads =
    map-append (read_by bytes sent) reads (record { came = place; sent = length sent } ∷ [])
    ∙ ap (λ (t : List ℕ). map (read_by bytes sent) reads ++ read_at (Some (take place bytes)) (Some t) ∷ []) (take_all (length sent) sent (omega arith))
