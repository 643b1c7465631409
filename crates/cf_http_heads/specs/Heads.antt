-- Heads of requests: which texts begin with one, which can't, and what a head asks for.
use Rattle.std.specs.Prelude.{◌≡◌, ◌⊎◌, ℕ, ◌<◌, ◌≤◌, ◌==◌, ◌||◌, List, map, length, drop, codes}
use Rattle.std.specs.Str.{bytes_eq}
use Rattle.httparse.specs.Grammar.{RequestHead, print_request, IsRequestHead, ReadsRequest, HasNoRequest, MayBecomeRequest}
use Rattle.httparse.specs.Spans.{name_and_value, RequestOverflows}
use Rattle.cf_http_heads.specs.Fields.{Fields, body_length, says_close}
use Rattle.cf_http_heads.specs.Routes.{ask_of}
use Rattle.cf_http_heads.specs.declared.head.Heading.{Heading}
use Rattle.cf_http_heads.specs.declared.head.Front.{Front}
use Rattle.cf_http_heads.specs.declared.head.Front.TheVariants.{Head, NoHead, Open}

-- a head of the grammar, of at most 16,384 bytes and 64 fields
pub record IsHead (h : RequestHead) : Type 0 where
  pub grammar : IsRequestHead h
  pub short : length (print_request h) ≤ 16384
  pub few : length h.fields ≤ 64

-- the text goes on past 16,384 bytes, and no head of at most so many begins it
pub record IsTooLong (text : List ℕ) : Type 0 where
  pub long : 16384 < length text
  pub none : (h : RequestHead) (rest : List ℕ) → ReadsRequest text h rest
      → 16384 < length (print_request h)

-- the text is refused as a head: whatever follows, no head of at most 64 fields begins it, or it is
-- too long
abbrev pub IsNoHead : List ℕ → Type 0
IsNoHead text = RequestOverflows 64 text ⊎ IsTooLong text

-- the text is no head yet: more bytes can make it one, or it ends inside its target
pub record IsOpenHead (text : List ℕ) : Type 0 where
  pub short : length text ≤ 16384
  pub not_yet : HasNoRequest text
  pub may_become : MayBecomeRequest text

abbrev pub fields_of : RequestHead → Fields
fields_of h = map name_and_value h.fields

-- what a head of so many bytes asks for, by its parts
abbrev pub heading_by : ℕ → List ℕ → List ℕ → ℕ → Fields → Heading
heading_by len method target minor fields =
    record {
      length = len;
      is_head = bytes_eq method (codes "HEAD");
      closes = minor == 0 || says_close fields;
      body = body_length minor fields;
      ask = ask_of method target;
    }

abbrev pub heading_of : RequestHead → Heading
heading_of h = heading_by (length (print_request h)) h.method h.target h.minor (fields_of h)

-- the text begins with a head, which asks for this
pub record BeginsWithHead (text : List ℕ) (heading : Heading) : Type 0 where
  pub head : RequestHead
  pub is_head : IsHead head
  pub reads : ReadsRequest text head (drop heading.length text)
  pub asks : heading ≡ heading_of head

-- what stands at the front of a text
abbrev pub IsFront : List ℕ → Front → Type 0
IsFront text (Head heading) = BeginsWithHead text heading
IsFront text NoHead = IsNoHead text
IsFront text Open = IsOpenHead text

-- the same of a text of at most 16,384 bytes
abbrev pub IsShortFront : List ℕ → Front → Type 0
IsShortFront text (Head heading) = BeginsWithHead text heading
IsShortFront text NoHead = RequestOverflows 64 text
IsShortFront text Open = HasNoRequest text × MayBecomeRequest text
