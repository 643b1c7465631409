-- How the talks of several passes make up one history.
use Rattle.std.specs.Prelude.{◌≡◌, ℕ, ◌+◌, ◌<◌, ◌≤◌, List, [], ◌∷◌, ⊤}
use Rattle.cf_turns.specs.Lists.{count_of}
use Rattle.cf_turns.specs.States.{ReceiptsState}
use Rattle.cf_serve_laws.specs.PassTalks.{Said, places_of}

-- how often the talks have an accepted call at the place
abbrev pub accepted_at : ℕ → List (List Said) → ℕ
accepted_at place [] = 0
accepted_at place (said ∷ talks) = count_of place (places_of said) + accepted_at place talks

-- each entry past the first so many is exactly one accepted call's, and no other place is any's
pub record EachIsOne (first last : ℕ) (talks : List (List Said)) : Type 0 where
  pub new : (place : ℕ) → first < place → place ≤ last → accepted_at place talks ≡ 1
  pub old : (place : ℕ) → place ≤ first → accepted_at place talks ≡ 0
  pub past : (place : ℕ) → last < place → accepted_at place talks ≡ 0

-- each talk's accepted calls have the places of its pass's receipts
abbrev pub AreTalksOf : List (List Said) → List ReceiptsState → Type 0
AreTalksOf [] [] = ⊤
AreTalksOf (said ∷ talks) (r ∷ receipts) = (r.places ≡ places_of said) × AreTalksOf talks receipts
AreTalksOf _ _ = ⊥
