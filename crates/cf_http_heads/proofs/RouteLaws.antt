-- A request that goes somewhere goes to a route in form.
use Rattle.std.proofs.Common.{◌≡◌, ℕ, ◌≤◌, List, [], ◌∷◌, Bool, true, false, Option, Some, None, Result, Ok, Err, subst, refl, ap, if◌then◌else◌, nat_le, ◌&&◌, length, codes, option_and_then, option_map, bytes_eq}
use Rattle.std.specs.Prelude.{⊤}
use Rattle.cf_base.proofs.Common.{digits_value, leb-true}
use Rattle.cf_http_heads.specs.Fields.{is_number}
use Rattle.cf_base.specs.Common.{statement_of}
use Rattle.cf_http_heads.specs.Routes.{number_from, line_route, report_route, route_by, route_of, path_of, ask_by, ask_of, method_of, method_name, words_of, IsRouteInForm}
use Rattle.cf_base.specs.declared.statement.Kind.{Kind}
use Rattle.cf_http_heads.specs.declared.route.Route.{Route}
use Rattle.cf_http_heads.specs.declared.route.Route.TheVariants as route
use Rattle.cf_http_heads.specs.declared.route.Miss.{Miss}
use Rattle.cf_http_heads.specs.declared.route.Miss.TheVariants.{NoRoute, WrongMethod}
use Rattle.cf_http_heads.proofs.FieldLaws.{err_no_ok}

-- a number, if there is one, is within bounds
abbrev IsWithin : ℕ → ℕ → Option ℕ → Type 0
IsWithin least most None = ⊤
IsWithin least most (Some n) = (least ≤ n) × (n ≤ most)

within_by : (a b c d : Bool) (n least most : ℕ) → nat_le n most ≡ c → nat_le least n ≡ d → IsWithin least most (if a && b && c && d then Some n else None)
within_by false b c d n least most le ge = tt
within_by true false c d n least most le ge = tt
within_by true true false d n least most le ge = tt
within_by true true true false n least most le ge = tt
within_by true true true true n least most le ge = (leb-true least n ge, leb-true n most le)

number_within : (least most : ℕ) (text : List ℕ) → IsWithin least most (number_from least most text)
number_within least most text =
    let n = digits_value 10 text in
    within_by (is_number text) (nat_le (length text) 5) (nat_le n most) (nat_le least n) n least most refl refl

-- a route, if there is one, is in form
abbrev IsInForm : Option Route → Type 0
IsInForm None = ⊤
IsInForm (Some r) = IsRouteInForm r

line_in_form : (line year : List ℕ) → IsInForm (line_route line year)
line_in_form line year = by_numbers (number_from 0 65535 line) (number_from 1971 2199 year) (number_within 0 65535 line) (number_within 1971 2199 year)
  where
    by_numbers : (n m : Option ℕ) → IsWithin 0 65535 n → IsWithin 1971 2199 m → IsInForm (option_and_then (λ l. option_map (λ y. route.Line l y) m) n)
    by_numbers None m a b = tt
    by_numbers (Some l) None a b = tt
    by_numbers (Some l) (Some y) a b = (a.1, record { least = b.0; most = b.1 })

report_in_form : (year kind : List ℕ) → IsInForm (report_route year kind)
report_in_form year kind = by_parts (number_from 1971 2199 year) (statement_of kind) (number_within 1971 2199 year)
  where
    by_parts : (n : Option ℕ) (k : Option Kind) → IsWithin 1971 2199 n → IsInForm (option_and_then (λ y. option_map (λ k. route.Report y k) k) n)
    by_parts None k a = tt
    by_parts (Some y) None a = tt
    by_parts (Some y) (Some k) a = record { least = a.0; most = a.1 }

route_in_form : (words : List (List ℕ)) → IsInForm (route_by words)
route_in_form [] = tt
route_in_form ((b ∷ bs) ∷ words) = tt
route_in_form ([] ∷ []) = tt
route_in_form ([] ∷ a ∷ []) = by_word (bytes_eq a (codes "calls"))
  where
    by_word : (t : Bool) → IsInForm (if t then Some route.Calls else None)
    by_word true = tt
    by_word false = tt
route_in_form ([] ∷ a ∷ b ∷ []) = tt
route_in_form ([] ∷ a ∷ b ∷ c ∷ []) = by_word (bytes_eq a (codes "lines")) (bytes_eq a (codes "reports"))
  where
    by_word : (t u : Bool) → IsInForm (if t then line_route b c else if u then report_route b c else None)
    by_word true u = line_in_form b c
    by_word false true = report_in_form b c
    by_word false false = tt
route_in_form ([] ∷ a ∷ b ∷ c ∷ d ∷ ds) = tt

abbrev route_or : Route → Result Route Miss → Route
route_or r (Ok s) = s
route_or r (Err e) = r

ask_by_form : (method : List ℕ) (found : Option Route) (r : Route) → IsInForm found → ask_by method found ≡ Ok r → IsRouteInForm r
ask_by_form method None r is e = absurd (err_no_ok NoRoute r e)
ask_by_form method (Some s) r is e = by_method (bytes_eq method (method_name (method_of s))) e
  where
    by_method : (t : Bool) → ◌≡◌ {A = Result Route Miss} (if t then Ok s else Err (WrongMethod (method_of s))) (Ok r) → IsRouteInForm r
    by_method true h = subst IsRouteInForm (ap (route_or r) h) is
    by_method false h = absurd (err_no_ok (WrongMethod (method_of s)) r h)

pub ask_in_form : (method target : List ℕ) (r : Route) → ask_of method target ≡ Ok r → IsRouteInForm r
ask_in_form method target r e = ask_by_form method (route_of (path_of target)) r (route_in_form (words_of (path_of target))) e
