-- Any bytes may be what a crash leaves of themselves.
use Rattle.std.proofs.Common.{ℕ, List, refl, arith}
use Rattle.cf_disk.specs.Images.{Torn, HalfCut}

pub torn_same : (at n : ℕ) (image : List ℕ) → Torn at n image image
torn_same at n image = record { stays = λ k within where_. refl; no_shorter = omega arith; no_longer = omega arith }

pub half_cut_same : (n : ℕ) (image : List ℕ) → HalfCut n image image
half_cut_same n image = record { stays = λ k short within. refl; no_shorter = omega arith; no_longer = omega arith }
