-- From how the service at each door ended to how the run ends.
use Rattle.std.proofs.Common.{◌≡◌, inl, inr, ℕ, List, [], ◌∷◌, map, Bool, true, false, true≢false, refl, sym, arith, sum_by}
use Rattle.cf_base.proofs.Common.{list_any, or_cases, or_parts, sum_by-cons}
use Rattle.cf_base.specs.Common.{Rose}
use Rattle.cf_chart.specs.Common.{Plan}
use Rattle.cf_http.specs.declared.end.DoorEnd.{DoorEnd}
use Rattle.cf_http.specs.declared.end.DoorEnd.TheVariants.{Done, DoorFault}
use Rattle.cf_http.specs.Doors.{IsEnough, IsQuiet}
use Rattle.cf_http.specs.Links.{LinkTells}
use Rattle.cf_turns.specs.Lists.{TaggedEntry}
use Rattle.cf_serve_laws.specs.Desks.{DeskState, end_links, is_fault}
use Rattle.cf_serve_laws.specs.ServeEnds.{AllQuiet, SomeRose, links_given}
use Rattle.cf_serve_laws.specs.ServeRuns.{AllKept, door_of}

-- ---- one door

enough_links : (asked : ℕ) (coming : Bool) (end : DoorEnd) (count : ℕ) → IsEnough asked coming end count → count ≡ end_links end
enough_links asked coming (Done links) count e = e.0
enough_links asked coming (DoorFault links) count e = e.0

quiet_is : (before now : ℕ) (end : DoorEnd) → IsQuiet before now end → is_fault end ≡ false → now ≡ before
quiet_is before now (Done links) q e = q
quiet_is before now (DoorFault links) q e = absurd (true≢false e)

rose_is : (before now : ℕ) (end : DoorEnd) → IsQuiet before now end → is_fault end ≡ true → Rose before now
rose_is before now (Done links) q e = absurd (true≢false (sym e))
rose_is before now (DoorFault links) q e = q

-- ---- all doors

module _ {L : Type 0} (tells : L → LinkTells) (known : Bool) (plan : Plan) (first : ℕ) (list : List TaggedEntry) (links : ℕ) where
  pub all_quiet : (olds news : List (DeskState L)) → AllKept tells known plan first list links olds news → list_any (λ (d : DeskState L). is_fault d.end) news ≡ false → AllQuiet (map door_of olds) (map door_of news)
  all_quiet [] [] all none = tt
  all_quiet [] (n ∷ news) all none = absurd all
  all_quiet (o ∷ olds) [] all none = absurd all
  all_quiet (o ∷ olds) (n ∷ news) all none =
      let split = or_parts (is_fault n.end) (list_any (λ (d : DeskState L). is_fault d.end) news) none in
      (quiet_is o.door.faults n.door.faults n.end all.1.quiet split.0, all_quiet olds news all.3 split.1)

  pub some_rose : (olds news : List (DeskState L)) → AllKept tells known plan first list links olds news → list_any (λ (d : DeskState L). is_fault d.end) news ≡ true → SomeRose (map door_of olds) (map door_of news)
  some_rose [] [] all some = absurd (true≢false (sym some))
  some_rose [] (n ∷ news) all some = absurd all
  some_rose (o ∷ olds) [] all some = absurd all
  some_rose (o ∷ olds) (n ∷ news) all some =
      elim (or_cases (is_fault n.end) (list_any (λ (d : DeskState L). is_fault d.end) news) some) [
        | inl here ↦ inl (rose_is o.door.faults n.door.faults n.end all.1.quiet here)
        | inr later ↦ inr (some_rose olds news all.3 later)
      ]

  -- the links that were served are those that the doors gave
  pub given_is : (olds news : List (DeskState L)) → AllKept tells known plan first list links olds news → links_given (map door_of olds) (map door_of news) ≡ sum_by (λ (d : DeskState L). end_links d.end) news
  given_is [] [] all = refl
  given_is [] (n ∷ news) all = absurd all
  given_is (o ∷ olds) [] all = absurd all
  given_is (o ∷ olds) (n ∷ news) all =
      let here = enough_links links n.door.coming n.end all.1.count all.1.enough in
      let cons = sum_by-cons (λ (d : DeskState L). end_links d.end) n news in
      omega (arith, here, cons, all.1.kept.served.given, given_is olds news all.3)
