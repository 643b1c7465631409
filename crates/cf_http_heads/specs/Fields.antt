-- What the fields of a head say. A field is its name and its value, without the white space around
-- it.
use Rattle.std.specs.Prelude.{◌≢◌, All, Option, Some, None, take, drop, ℕ, List, [], ◌∷◌, Bool, not, ◌&&◌, length, map, codes, if◌then◌else◌, ◌==◌, nat_le, nat_lt, Result, Ok, Err}
use Rattle.std.specs.List.{filter, list_any, list_all}
use Rattle.std.specs.Char.{is_ascii_digit}
use Rattle.std.specs.Str.{str_eq_ignore_ascii_case}
use Rattle.std.specs.Str.Parse.{digits_value}
use Rattle.httparse.specs.Ascii.{comma}
use Rattle.httparse.specs.Grammar.{is_ows, skip_ows}
use Rattle.cf_http_heads.specs.declared.fields.Refusal.{Refusal}
use Rattle.cf_http_heads.specs.declared.fields.Refusal.TheVariants.{Head, Coding, Long}

abbrev pub Fields : Type 0
Fields = List (List ℕ × List ℕ)

-- the values of the fields of a name, which is compared without ASCII case
abbrev pub values_of : List ℕ → Fields → List (List ℕ)
values_of name fields = map (λ f. f.1) (filter (λ f. str_eq_ignore_ascii_case f.0 name) fields)

-- one digit or more, and nothing else
abbrev pub is_number : List ℕ → Bool
is_number text = nat_lt 0 (length text) && list_all is_ascii_digit text

-- the length of the body by the values of the fields that state it: none is no body
abbrev pub stated_length : List (List ℕ) → Result ℕ Refusal
stated_length [] = Ok 0
stated_length (v ∷ []) =
    if is_number v then
    (if nat_le (digits_value 10 v) 262144 then Ok (digits_value 10 v) else Err Long) else Err Head
stated_length (v ∷ w ∷ vs) = Err Head

-- the length of the body, or the first rule that refuses the head: an HTTP/1.1 head names one host;
-- no body comes in a transfer coding; its length is stated once, by digits, and is at most 262,144
abbrev pub body_length : ℕ → Fields → Result ℕ Refusal
body_length minor fields =
    if minor == 1 && not (length (values_of (codes "host") fields) == 1) then Err Head
    else if nat_lt 0 (length (values_of (codes "transfer-encoding") fields)) then Err Coding
    else stated_length (values_of (codes "content-length") fields)

-- what stands between separators
abbrev pub put_front : ℕ → List (List ℕ) → List (List ℕ)
put_front b [] = (b ∷ []) ∷ []
put_front b (e ∷ es) = (b ∷ e) ∷ es

abbrev pub parts : ℕ → List ℕ → List (List ℕ)
parts separator [] = [] ∷ []
parts separator (b ∷ bs) = if b == separator then [] ∷ parts separator bs
    else put_front b (parts separator bs)

abbrev pub elements : List ℕ → List (List ℕ)
elements value = parts comma value

-- white space, the word in any ASCII case, and white space
abbrev pub is_close : List ℕ → Bool
is_close element =
    str_eq_ignore_ascii_case (take 5 (skip_ows element)) (codes "close")
    && list_all is_ows (drop 5 (skip_ows element))

-- an element of a field on the connection says that the link is to be closed
abbrev pub says_close : Fields → Bool
says_close fields =
    list_any (λ value. list_any is_close (elements value)) (values_of (codes "connection") fields)

-- the first of these values, if there is one
abbrev pub first_value : List (List ℕ) → Option (List ℕ)
first_value [] = None
first_value (v ∷ vs) = Some v

-- the byte doesn't stand in the text
abbrev pub HasNone : ℕ → List ℕ → Type 0
HasNone b text = All (λ x. x ≢ b) text
