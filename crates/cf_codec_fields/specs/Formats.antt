-- What a format of bytes is: how a value is written, how long that is, and how a value is read from
-- the front of bytes. A value fits where each of its numbers has its place in the bytes of its
-- field.
use Rattle.std.specs.Prelude.{ℕ, zero, suc, ◌+◌, ◌*◌, ◌^◌, ◌<◌, ◌&&◌, List, [], ◌∷◌, ◌++◌, length, take, drop, Bool, nat_lt, nat_le, if◌then◌else◌, Option, Some, None, Result, Ok, Err, ⊤}
use Rattle.std.specs.Int.{Width, w16, byte_len, to_be_bytes, from_be_bytes}

-- Reading gives a value and the bytes after it, or how many bytes are left from the first faulty
-- field on.
pub record Format (A : Type 0) : Type 1 where
  pub bytes : A → List ℕ
  pub size : A → ℕ
  pub fits : A → Type 0
  pub read : List ℕ → Result (A × List ℕ) ℕ

-- reads on behind a value; the first fault speaks
abbrev pub and_then : {A B : Type 0} → Result (A × List ℕ) ℕ → (A → List ℕ → Result (B × List ℕ) ℕ)
    → Result (B × List ℕ) ℕ
and_then (Ok x) next = next x.0 x.1
and_then (Err left) next = Err left

-- ---- one field

-- a number, its highest byte first
unfoldable pub number_bytes : Width → ℕ → List ℕ
number_bytes w n = to_be_bytes w n

-- a number is faulty where it is cut short
unfoldable pub number_at : Width → List ℕ → Result (ℕ × List ℕ) ℕ
number_at w bytes =
    if nat_lt (length bytes) (byte_len w) then Err (length bytes)
    else Ok (from_be_bytes w (take (byte_len w) bytes), drop (byte_len w) bytes)

abbrev pub number : Width → Format ℕ
number w = record {
  bytes = number_bytes w;
  size = λ n. byte_len w;
  fits = λ n. n < 2 ^ (8 * byte_len w);
  read = number_at w;
}

-- a value that is there, or a fault
abbrev pub or_left : {A : Type 0} → Option A → List ℕ → ℕ → Result (A × List ℕ) ℕ
or_left None rest left = Err left
or_left (Some a) rest left = Ok (a, rest)

-- a field that is written as one of another format; what stands for no value is a fault at the
-- field's first byte
abbrev pub converted : {A B : Type 0} → (A → Option B) → (B → A) → Format A → Format B
converted value code f = record {
  bytes = λ b. f.bytes (code b);
  size = λ b. f.size (code b);
  fits = λ b. f.fits (code b);
  read = λ bytes. and_then (f.read bytes) (λ a rest. or_left (value a) rest (length bytes));
}

-- the value, where it passes
abbrev pub passing : {A : Type 0} → (A → Bool) → A → Option A
passing test a = if test a then Some a else None

-- a field whose value must pass a test
abbrev pub kept : {A : Type 0} → (A → Bool) → Format A → Format A
kept test f = converted (passing test) (λ a. a) f

-- ---- a list: how many, and one after another

unfoldable pub each_bytes : {A : Type 0} → Format A → List A → List ℕ
each_bytes f [] = []
each_bytes f (x ∷ xs) = f.bytes x ++ each_bytes f xs

unfoldable pub each_size : {A : Type 0} → Format A → List A → ℕ
each_size f [] = 0
each_size f (x ∷ xs) = f.size x + each_size f xs

unfoldable pub each_fits : {A : Type 0} → Format A → List A → Type 0
each_fits f [] = ⊤
each_fits f (x ∷ xs) = f.fits x × each_fits f xs

unfoldable pub each_at : {A : Type 0} → Format A → ℕ → List ℕ → Result (List A × List ℕ) ℕ
each_at f zero bytes = Ok ([], bytes)
each_at f (suc n) bytes =
    and_then (f.read bytes) (λ x rest. and_then (each_at f n rest) (λ xs after. Ok (x ∷ xs, after)))

abbrev pub is_between : ℕ → ℕ → ℕ → Bool
is_between least most n = nat_le least n && nat_le n most

-- from `least` to `most` elements
abbrev pub list : {A : Type 0} → ℕ → ℕ → Format A → Format (List A)
list least most f = record {
  bytes = λ xs. number_bytes w16 (length xs) ++ each_bytes f xs;
  size = λ xs. 2 + each_size f xs;
  fits = each_fits f;
  read = λ bytes. and_then ((kept (is_between least most) (number w16)).read bytes)
      (λ n rest. each_at f n rest);
}

-- ---- fields one after another: a field of a record, then what follows, which may depend on its
-- value

pub record Part (R A : Type 0) : Type 1 where
  pub get : R → A
  pub format : Format A

abbrev pub field : {R A : Type 0} → (R → A) → Format A → Part R A
field get format = record { get = get; format = format }

infixl 10 ◌>>=◌
abbrev pub ◌>>=◌ : {R A : Type 0} → Part R A → (A → Format R) → Format R
p >>= next = record {
  bytes = λ r. p.format.bytes (p.get r) ++ (next (p.get r)).bytes r;
  size = λ r. p.format.size (p.get r) + (next (p.get r)).size r;
  fits = λ r. p.format.fits (p.get r) × (next (p.get r)).fits r;
  read = λ bytes. and_then (p.format.read bytes) (λ a rest. (next a).read rest);
}

-- the record that was read
abbrev pub done : {R : Type 0} → R → Format R
done r = record { bytes = λ _. []; size = λ _. 0; fits = λ _. ⊤; read = λ bytes. Ok (r, bytes) }
