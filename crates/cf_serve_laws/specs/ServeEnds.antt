-- What the output of a run of `serve` holds.
use Rattle.std.specs.Prelude.{◌≡◌, ◌⊎◌, ℕ, ◌+◌, ◌-◌, List, [], ◌∷◌, ◌++◌, ⊤, Option, codes, decimal}
use Rattle.std.specs.Io.KnownBytes.{Appends}
use Rattle.cf_base.specs.Common.{Rose}
use Rattle.cf_http.specs.Links.{SentFront}
use Rattle.cf_http.specs.Doors.{DoorTells}

-- no door's count of faults rose
abbrev pub AllQuiet : {L : Type 0} → List (DoorTells L) → List (DoorTells L) → Type 0
AllQuiet [] [] = ⊤
AllQuiet (o ∷ olds) (n ∷ news) = (n.faults ≡ o.faults) × AllQuiet olds news
AllQuiet _ _ = ⊥

-- the count of one of the doors rose
abbrev pub SomeRose : {L : Type 0} → List (DoorTells L) → List (DoorTells L) → Type 0
SomeRose (o ∷ olds) (n ∷ news) = Rose o.faults n.faults ⊎ SomeRose olds news
SomeRose _ _ = ⊥

-- how many links the doors gave, each of which was finished
abbrev pub links_given : {L : Type 0} → List (DoorTells L) → List (DoorTells L) → ℕ
links_given (o ∷ olds) (n ∷ news) = (n.given - o.given) + links_given olds news
links_given _ _ = 0

abbrev pub served_text : ℕ → List ℕ
served_text links = codes "served " ++ (decimal links ++ codes " links\n")

-- the run's last line was written whole, or, where the output failed, a front of it
abbrev pub EndsWhole : {L : Type 0} → List (DoorTells L) → List (DoorTells L) → Option (List ℕ)
    → Option (List ℕ) → Type 0
EndsWhole olds news held held' = AllQuiet olds news
    × Appends held held' (served_text (links_given olds news))

abbrev pub EndsUnwritten : {L : Type 0} → List (DoorTells L) → List (DoorTells L) → Option (List ℕ)
    → Option (List ℕ) → Type 0
EndsUnwritten olds news held held' = AllQuiet olds news
    × SentFront held held' (served_text (links_given olds news))
