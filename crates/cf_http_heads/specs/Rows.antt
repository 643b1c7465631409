-- The routes as the router keeps them, and what it finds.
use Rattle.std.specs.Prelude.{◌≡◌, ℕ, List, [], ◌∷◌, ◌++◌, codes, Option, Some, None}
use Rattle.matchit.specs.Rows.{RowsOf, param_token}
use Rattle.matchit.specs.Router.{RouteOf}
use Rattle.cf_http_heads.specs.Routes.{line_route, report_route, route_by}
use Rattle.cf_http_heads.specs.declared.route.Route.TheVariants as route
use Rattle.cf_http_heads.specs.declared.router.Place.{Place}
use Rattle.cf_http_heads.specs.declared.router.Place.TheVariants.{Calls, Lines, Reports}

-- two parameters, each a whole word
abbrev pub two : List ℕ
two = param_token ∷ 47 ∷ param_token ∷ []

module _ {K : Type 0} (calls lines reports : K) where
  abbrev pub desk_rows : RowsOf K
  desk_rows = (codes "/calls", calls) ∷ (codes "/lines/" ++ two, lines)
      ∷ (codes "/reports/" ++ two, reports) ∷ []

-- a pattern with two parameters after a word: the text of its route, and where the names of its
-- parameters stand in that
abbrev pub two_parts : List ℕ → List ℕ → List (ℕ × ℕ) → Place → RouteOf Place
two_parts word text names place =
    record { pattern = word ++ two; text = text; names = names; value = place }

abbrev pub calls_row : RouteOf Place
calls_row = record { pattern = codes "/calls"; text = codes "/calls"; names = []; value = Calls }

abbrev pub lines_row : RouteOf Place
lines_row = two_parts (codes "/lines/") (codes "/lines/{line}/{year}")
    ((8, 12) ∷ (15, 19) ∷ []) Lines

abbrev pub reports_row : RouteOf Place
reports_row = two_parts (codes "/reports/") (codes "/reports/{year}/{kind}")
    ((10, 14) ∷ (17, 21) ∷ []) Reports

abbrev pub router_rows : RowsOf (RouteOf Place)
router_rows = desk_rows calls_row lines_row reports_row

-- what a path's place says of the path's route, by its words
abbrev pub IsPlace : List (List ℕ) → Option Place → Type 0
IsPlace words None = route_by words ≡ None
IsPlace words (Some Calls) = route_by words ≡ Some route.Calls
IsPlace words (Some Lines) = (a b c : List ℕ) × (words ≡ [] ∷ a ∷ b ∷ c ∷ [])
    × (route_by words ≡ line_route b c)
IsPlace words (Some Reports) = (a b c : List ℕ) × (words ≡ [] ∷ a ∷ b ∷ c ∷ [])
    × (route_by words ≡ report_route b c)
