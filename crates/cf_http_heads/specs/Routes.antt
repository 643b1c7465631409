-- Where requests go.
use Rattle.std.specs.Prelude.{◌≡◌, ◌≤◌, ⊤, MatchOption, ℕ, List, [], ◌∷◌, ◌&&◌, length, codes, if◌then◌else◌, ◌==◌, nat_le, Option, Some, None, Result, Ok, Err}
use Rattle.std.specs.Borrow.{Bor}
use Rattle.std.specs.List.{before_first}
use Rattle.std.specs.Option.{option_and_then, option_map}
use Rattle.std.specs.Str.{bytes_eq}
use Rattle.std.specs.Str.Parse.{digits_value}
use Rattle.cf_base.specs.Common.{last_year, statement_of}
use Rattle.cf_http_heads.specs.Fields.{is_number, parts}
use Rattle.cf_http_heads.specs.declared.route.Route.{Route}
use Rattle.cf_http_heads.specs.declared.route.Route.TheVariants.{Calls, Line, Report}
use Rattle.cf_http_heads.specs.declared.route.Method.{Method}
use Rattle.cf_http_heads.specs.declared.route.Method.TheVariants.{Get, Post}
use Rattle.cf_http_heads.specs.declared.route.Miss.{Miss}
use Rattle.cf_http_heads.specs.declared.route.Miss.TheVariants.{NoRoute, WrongMethod}

-- the target up to its question mark
abbrev pub path_of : List ℕ → List ℕ
path_of target = before_first (λ b. b == 63) target

-- the words between slashes
abbrev pub words_of : List ℕ → List (List ℕ)
words_of path = parts 47 path

-- a number of one to five digits, from least to most
abbrev pub number_from : ℕ → ℕ → List ℕ → Option ℕ
number_from least most text =
    if is_number text && nat_le (length text) 5 && nat_le (digits_value 10 text) most
    && nat_le least (digits_value 10 text)
    then Some (digits_value 10 text) else None

abbrev pub line_route : List ℕ → List ℕ → Option Route
line_route line year =
    option_and_then (λ l. option_map (λ y. Line l y) (number_from 1971 last_year year))
    (number_from 0 65535 line)

abbrev pub report_route : List ℕ → List ℕ → Option Route
report_route year kind =
    option_and_then (λ y. option_map (λ k. Report y k) (statement_of kind))
    (number_from 1971 last_year year)

-- /calls, /lines/{line}/{year} and /reports/{year}/{kind}, by the words of the path
abbrev pub route_by : List (List ℕ) → Option Route
route_by ([] ∷ a ∷ []) = if bytes_eq a (codes "calls") then Some Calls else None
route_by ([] ∷ a ∷ b ∷ c ∷ []) =
    if bytes_eq a (codes "lines") then line_route b c
    else if bytes_eq a (codes "reports") then report_route b c
    else None
route_by words = None

abbrev pub route_of : List ℕ → Option Route
route_of path = route_by (words_of path)

-- how a route is asked
abbrev pub method_of : Route → Method
method_of Calls = Post
method_of (Line line year) = Get
method_of (Report year kind) = Get

abbrev pub method_name : Method → List ℕ
method_name Get = codes "GET"
method_name Post = codes "POST"

-- a known path is asked by its method alone
abbrev pub ask_by : List ℕ → Option Route → Result Route Miss
ask_by method None = Err NoRoute
ask_by method (Some route) =
    if bytes_eq method (method_name (method_of route)) then Ok route
    else Err (WrongMethod (method_of route))

abbrev pub ask_of : List ℕ → List ℕ → Result Route Miss
ask_of method target = ask_by method (route_of (path_of target))

-- a path is split at its first slash, if it has one
abbrev pub IsSplit : List ℕ → Option (Bor (List ℕ) × Bor (List ℕ)) → Type 0
IsSplit path r = MatchOption r (words_of path ≡ path ∷ [])
    (λ x. words_of path ≡ x.0.now ∷ words_of x.1.now)

-- these two words are given
abbrev pub HasTwoWords : List ℕ → List ℕ → Option (Bor (List ℕ) × Bor (List ℕ)) → Type 0
HasTwoWords b c None = ⊥
HasTwoWords b c (Some x) = (x.0.now ≡ b) × (x.1.now ≡ c)

-- a fiscal year that can be looked at
pub record IsLookYear (year : ℕ) : Type 0 where
  pub least : 1971 ≤ year
  pub most : year ≤ last_year

-- what a route names is in range
abbrev pub IsRouteInForm : Route → Type 0
IsRouteInForm Calls = ⊤
IsRouteInForm (Line line year) = (line ≤ 65535) × IsLookYear year
IsRouteInForm (Report year kind) = IsLookYear year
