-- The desks of a hall, from their opening to their end.
use Rattle.std.specs.Prelude.{◌≡◌, ◌<◌, ℕ, All, Bool, if◌then◌else◌, List, length, map, slice_index_or}
use Rattle.std.specs.List.{list_any, sum_by}
use Rattle.cf_chart.specs.Common.{Plan}
use Rattle.cf_http.specs.Doors.{DoorTells}
use Rattle.cf_http.specs.Links.{LinkTells}
use Rattle.cf_hall_names.specs.Closing.{IsFreshPass}
use Rattle.cf_serve.specs.declared.end.ServeEnd.{ServeEnd}
use Rattle.cf_serve.specs.declared.end.ServeEnd.TheVariants.{Served, DoorFailed}
use Rattle.cf_serve_laws.specs.Desks.{DeskKept, DeskState, end_links, is_fault}
use Rattle.cf_serve_laws.specs.ServeRuns.{door_of}
use Rattle.cf_turns.specs.States.{PassState}

-- at each place a desk was kept
abbrev pub EachKept : {L : Type 0} → (L → LinkTells) → Bool → Plan → ℕ → List (DeskState L)
    → List (DeskState L) → Type 0
EachKept tells known plan links before after =
    (i : ℕ) (d : _) → i < length before
    → DeskKept tells known plan links (slice_index_or before i d) (slice_index_or after i d)

-- how the service of the desks ended: whether a door failed, and how many links were given
abbrev pub end_of : {L : Type 0} → List (DeskState L) → ServeEnd
end_of desks = if list_any (λ d. is_fault d.end) desks
    then DoorFailed (sum_by (λ d. end_links d.end) desks)
    else Served (sum_by (λ d. end_links d.end) desks)

-- A desk was opened at each door, with a fresh pass, which has seen so many entries at least, and
-- kept. The doors and the passes are those that the desks had in the end, and the service ended so.
pub record DesksRan {L : Type 0} (tells : L → LinkTells) (known : Bool) (plan : Plan)
    (first links : ℕ) (olds news : List (DoorTells L)) (passes : List PassState)
    (end : ServeEnd) : Type 0 where
  pub before : List (DeskState L)
  pub after : List (DeskState L)
  pub many : length after ≡ length before
  pub fresh : All (λ d. IsFreshPass first d.pass) before
  pub kept : EachKept tells known plan links before after
  pub olds_are : olds ≡ map door_of before
  pub news_are : news ≡ map door_of after
  pub passes_are : passes ≡ map (λ d. d.pass) after
  pub ended : end ≡ end_of after
