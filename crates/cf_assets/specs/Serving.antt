-- The assets in service, by their places among all.
use Rattle.std.specs.Prelude.{◌≡◌, ◌⊎◌, ℕ, ◌+◌, ◌-◌, Bool, false, if◌then◌else◌, nat_lt, List, [], ◌∷◌, ◌++◌, Option, Some, None, slice_get}
use Rattle.cf_assets.specs.declared.rows.AssetRow.{AssetRow}
use Rattle.cf_assets.specs.declared.rows.StageNow.{StageNow}
use Rattle.cf_assets.specs.declared.rows.StageNow.TheVariants.{Held}

-- an asset may still be charged: it is held, and its life isn't over when so many months are closed
abbrev pub serves_in : StageNow → ℕ → ℕ → Bool
serves_in Held served life = nat_lt served life
serves_in _ served life = false

abbrev pub serves : ℕ → AssetRow → Bool
serves months r = serves_in r.stage (months - r.service) r.life

abbrev pub serves_if : ℕ → Option AssetRow → Bool
serves_if months None = false
serves_if months (Some r) = serves months r

abbrev pub serves_at : ℕ → List AssetRow → ℕ → Bool
serves_at months rows at = serves_if months (slice_get rows at)

-- the places with that of a new asset; land never enters
abbrev pub enlisted : ℕ → AssetRow → List ℕ → List ℕ
enlisted at r serving = if nat_lt 0 r.life then serving ++ at ∷ [] else serving

-- the places rise, and each asset that may still be charged has its place among them; the first
-- asset stands at n
abbrev pub ServeFrom : ℕ → ℕ → List AssetRow → List ℕ → Type 0
ServeFrom months n [] [] = Unit {0}
ServeFrom months n [] (at ∷ serving) = ⊥
ServeFrom months n (r ∷ rows) [] = (serves months r ≡ false) × ServeFrom months (n + 1) rows []
ServeFrom months n (r ∷ rows) (at ∷ serving) =
    ((at ≡ n) × ServeFrom months (n + 1) rows serving)
    ⊎ ((serves months r ≡ false) × ServeFrom months (n + 1) rows (at ∷ serving))

abbrev pub ServeAll : ℕ → List AssetRow → List ℕ → Type 0
ServeAll months rows serving = ServeFrom months 0 rows serving
