-- What a head that came leads to.
use Rattle.std.specs.Prelude.{ℕ, List, Bool}
use Rattle.cf_http_heads.specs.Heads.{BeginsWithHead, IsNoHead}
use Rattle.cf_http.specs.Links.{LinkTells, NoFaults, FaultsOf}
use Rattle.cf_http.specs.Serving.{NoneCame}
use Rattle.cf_http.specs.declared.reading.Next.{Next}
use Rattle.cf_http.specs.declared.reading.Next.TheVariants.{Head, NoHead, Stop}

-- what stands at the front of the text, or why nothing does
abbrev pub IsNext : List ℕ → Bool → Next → Type 0
IsNext text ended (Head heading) = BeginsWithHead text heading
IsNext text ended NoHead = IsNoHead text
IsNext text ended (Stop how) = NoneCame text ended how

-- a read's fault stops it, and is counted
abbrev pub FaultsNext : LinkTells → LinkTells → Next → Type 0
FaultsNext old new (Stop how) = FaultsOf old new how
FaultsNext old new _ = NoFaults old new
