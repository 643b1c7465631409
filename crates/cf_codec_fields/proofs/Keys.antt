-- A key is text.
use Rattle.std.proofs.Common.{◌≡◌, ◌≤◌, ℕ, zero, suc, true, List, [], ◌∷◌, arith, nat_le, IsUtf8, IsAscii}
use Rattle.cf_base.proofs.Common.{list_all, leb-true, and_parts, IsUtf8-from_ascii}
use Rattle.cf_calls.specs.Common.{is_key, is_key_byte}

key-ascii : (k : List ℕ) → list_all is_key_byte k ≡ true → IsAscii k
key-ascii [] e i = omega arith
key-ascii (c ∷ k) e zero = let h : (nat_le 33 c ≡ true) × (nat_le c 126 ≡ true) = and_parts _ _ (and_parts _ _ e).0 in let least : c ≤ 126 = leb-true c 126 h.1 in omega arith
key-ascii (c ∷ k) e (suc i) = key-ascii k (and_parts _ _ e).1 i

pub key-utf8 : (k : List ℕ) → is_key k ≡ true → IsUtf8 k
key-utf8 k e = IsUtf8-from_ascii k (key-ascii k (and_parts _ _ e).1)
