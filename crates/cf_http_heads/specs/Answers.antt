-- The bytes of answers.
use Rattle.std.specs.Prelude.{ℕ, List, [], ◌∷◌, ◌++◌, Bool, length, codes, decimal, true, false, if◌then◌else◌, ◌==◌, Option, Some, None}
use Rattle.http.specs.StatusCode.{code_digits}
use Rattle.cf_http_heads.specs.Routes.{method_name}
use Rattle.cf_http_heads.specs.declared.route.Method.{Method}
use Rattle.cf_http_heads.specs.declared.fields.Refusal.{Refusal}
use Rattle.cf_http_heads.specs.declared.fields.Refusal.TheVariants.{Head, Coding, Long}
use Rattle.cf_http_heads.specs.declared.route.Miss.{Miss}
use Rattle.cf_http_heads.specs.declared.route.Miss.TheVariants.{NoRoute, WrongMethod}

abbrev pub joined : List (List ℕ) → List ℕ
joined [] = []
joined (t ∷ ts) = t ++ joined ts

-- the phrase of a code
abbrev pub phrase_of : ℕ → List ℕ
phrase_of code =
    if code == 200 then codes "OK"
    else if code == 400 then codes "Bad Request"
    else if code == 404 then codes "Not Found"
    else if code == 405 then codes "Method Not Allowed"
    else if code == 409 then codes "Conflict"
    else if code == 413 then codes "Content Too Large"
    else if code == 500 then codes "Internal Server Error"
    else if code == 501 then codes "Not Implemented"
    else codes "Service Unavailable"

-- which method a route is asked by
abbrev pub allow_line : Option Method → List ℕ
allow_line None = []
allow_line (Some method) = joined (codes "allow: " ∷ method_name method ∷ codes "\r\n" ∷ [])

-- the link is closed
abbrev pub close_line : Bool → List ℕ
close_line closes = if closes then codes "connection: close\r\n" else []

-- the lines before a body of so many bytes
unfoldable pub lines_of : ℕ → ℕ → Option Method → Bool → List ℕ
lines_of code len allow closes =
    joined (codes "HTTP/1.1 " ∷ code_digits code ∷ codes " " ∷ phrase_of code
    ∷ codes "\r\ncontent-type: application/json\r\ncontent-length: "
    ∷ decimal len ∷ codes "\r\n" ∷ allow_line allow ∷ close_line closes ∷ codes "\r\n" ∷ [])

-- the answer to HEAD ends after the empty line
abbrev pub body_for : Bool → List ℕ → List ℕ
body_for is_head body = if is_head then [] else body

abbrev pub answer_bytes : ℕ → Option Method → Bool → Bool → List ℕ → List ℕ
answer_bytes code allow closes is_head body =
    lines_of code (length body) allow closes ++ body_for is_head body

-- a refused head, after which the link is closed
abbrev pub refusal_code : Refusal → ℕ
refusal_code Head = 400
refusal_code Coding = 501
refusal_code Long = 413

abbrev pub refusal_body : Refusal → List ℕ
refusal_body Head = codes "{\"form\":\"head\"}"
refusal_body Coding = codes "{\"form\":\"coding\"}"
refusal_body Long = codes "{\"form\":\"long\"}"

abbrev pub refusal_answer : Bool → Refusal → List ℕ
refusal_answer is_head refusal =
    answer_bytes (refusal_code refusal) None true is_head (refusal_body refusal)

-- a request that goes nowhere
abbrev pub miss_code : Miss → ℕ
miss_code NoRoute = 404
miss_code (WrongMethod method) = 405

abbrev pub miss_allow : Miss → Option Method
miss_allow NoRoute = None
miss_allow (WrongMethod method) = Some method

abbrev pub miss_body : Miss → List ℕ
miss_body NoRoute = codes "{\"form\":\"route\"}"
miss_body (WrongMethod method) = codes "{\"form\":\"method\"}"

abbrev pub miss_answer : Bool → Bool → Miss → List ℕ
miss_answer is_head closes miss =
    answer_bytes (miss_code miss) (miss_allow miss) closes is_head (miss_body miss)

-- want of memory, after which the link is closed
abbrev pub memory_answer : List ℕ
memory_answer = answer_bytes 503 None true false (codes "{\"memory\":true}")
