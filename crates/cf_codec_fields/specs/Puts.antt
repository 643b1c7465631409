-- What a writer of a part does.
use Rattle.std.specs.Prelude.{◌≡◌, ℕ, ◌+◌, ◌≤◌, List, ◌++◌, vec_len, vec_capacity}
use Rattle.std.specs.Global.{Vec}
use Rattle.cf_codec_fields.specs.Formats.{Format}

-- there is room for the value
abbrev pub HasRoom : {A : Type 0} → Format A → A → Vec ℕ → Type 0
HasRoom f a out = vec_len out + f.size a ≤ vec_capacity out

-- the bytes, so many as `size` says, stand at the end, no room is given back, and the value fits
pub record Adds (bytes : List ℕ) (size : ℕ) (Fits : Type 0) (old new : Vec ℕ) : Type 0 where
  pub text : new.items ≡ old.items ++ bytes
  pub longer : vec_len new ≡ vec_len old + size
  pub capacity : vec_capacity old ≤ vec_capacity new
  pub fits : Fits

-- the value's bytes stand at the end
abbrev pub Puts : {A : Type 0} → Format A → A → Vec ℕ → Vec ℕ → Type 0
Puts f a old new = Adds (f.bytes a) (f.size a) (f.fits a) old new
