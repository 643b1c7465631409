-- Tables of rows that differ at one place.
use Rattle.std.proofs.Common.{◌≡◌, ℕ, zero, suc, Bool, true, false, if◌then◌else◌, ◌==◌, ◌&&◌, [], length, get_or, Option, Some, None, is_some, ℤ, pos, refl, sym, ap, subst, ◌∙◌, arith, nat_cmp, is_eq, Ordering, Less, Equal, Greater, replicate}
use Rattle.cf_base.proofs.Common.{common_steps, ordering_then, is_at}
use Rattle.std.specs.Global.{Vec}
use Rattle.cf_ledger.specs.declared.places.Place.{Place}
use Rattle.cf_ledger.specs.Places.{Rows, place_cmp, row_where, row_of, has_row, cells_of, cells_at, AreCounted, KeepsRows, SameRows, ReadsSame, PutsCells}
use Rattle.cf_ledger.specs.Years.{no_cells}

pub both : (a b : Bool) → (a && b) ≡ true → (a ≡ true) × (b ≡ true)
both true b e = (refl, e)
both false b e = cc

pub number : (a b : ℕ) → (a == b) ≡ true → a ≡ b
number a b e = grind (arith, common_steps)

is_eq_then : (a b : Ordering) → is_eq (ordering_then a b) ≡ (is_eq a && is_eq b)
is_eq_then Less b = refl
is_eq_then Equal b = refl
is_eq_then Greater b = refl

same_number : (a b : ℕ) → is_eq (nat_cmp a b) ≡ (a == b)
same_number a b = grind (arith, common_steps)

pub same_place : (p q : Place) → is_at (place_cmp p) q ≡ ((p.fund == q.fund) && (p.account == q.account))
same_place p q = is_eq_then (nat_cmp p.fund q.fund) (nat_cmp p.account q.account) ∙ rw (same_number p.fund q.fund, same_number p.account q.account) refl

-- a table with a row put at a place
abbrev pub PutsRow : Rows → Rows → ℕ → ℕ → Vec ℤ → Type 0
PutsRow old new fund account row = (f a : ℕ) → row_of new f a ≡ (if (fund == f) && (account == a) then Some row else row_of old f a)

pub put_reads : (old new : Rows) (place : Place) (row : Vec ℤ) →
    ((q : Place) → row_where new q ≡ (if is_at (place_cmp place) q then Some row else row_where old q)) →
    PutsRow old new place.fund place.account row
put_reads old new place row h f a =
    h (record { fund = f; account = a })
    ∙ ap (λ b. if b then Some row else row_where old (record { fund = f; account = a })) (same_place place (record { fund = f; account = a }))

pub put_cells : (old new : Rows) (fund account : ℕ) (row : Vec ℤ) → PutsRow old new fund account row → PutsCells old new fund account row.items
put_cells old new fund account row h f a = ap cells_of (h f a) ∙ by_test ((fund == f) && (account == a))
  where
    by_test : (b : Bool) → cells_of (if b then Some row else row_of old f a) ≡ (if b then row.items else cells_at old f a)
    by_test true = refl
    by_test false = refl

-- at the place itself, what holds of its fund and account
pub there : (P : ℕ → ℕ → Type 0) (fund account f a : ℕ) → ((fund == f) && (account == a)) ≡ true → P fund account → P f a
there P fund account f a e h =
    let at = both (fund == f) (account == a) e in
    subst (λ (n : ℕ). P f n) (number account a at.1) (subst (λ (n : ℕ). P n account) (number fund f at.0) h)

pub put_same : (old new : Rows) (fund account : ℕ) (row : Vec ℤ) → PutsRow old new fund account row → has_row old fund account ≡ true → SameRows old new
put_same old new fund account row h has f a = ap is_some (h f a) ∙ by_test ((fund == f) && (account == a)) refl
  where
    by_test : (b : Bool) → ((fund == f) && (account == a)) ≡ b → is_some (if b then Some row else row_of old f a) ≡ has_row old f a
    by_test true e = sym (there (λ m n. has_row old m n ≡ true) fund account f a e has)
    by_test false e = refl

pub put_keeps : (old new : Rows) (fund account : ℕ) (row : Vec ℤ) → PutsRow old new fund account row → KeepsRows old new
put_keeps old new fund account row h f a has = ap is_some (h f a) ∙ by_test ((fund == f) && (account == a))
  where
    by_test : (b : Bool) → is_some (if b then Some row else row_of old f a) ≡ true
    by_test true = refl
    by_test false = has

pub put_counted : (old new : Rows) (fund account : ℕ) (row : Vec ℤ) → PutsRow old new fund account row → length row.items ≡ 231 → AreCounted old → AreCounted new
put_counted old new fund account row h count all f a = subst (λ (o : Option (Vec ℤ)). is_some o ≡ true → length (cells_of o) ≡ 231) (sym (h f a)) (by_test ((fund == f) && (account == a)))
  where
    by_test : (b : Bool) → (let o = if b then Some row else row_of old f a in is_some o ≡ true → length (cells_of o) ≡ 231)
    by_test true = λ _. count
    by_test false = all f a

none_cells : (o : Option (Vec ℤ)) → is_some o ≡ false → cells_of o ≡ []
none_cells None e = refl
none_cells (Some row) e = cc

pub zero_at : (n k : ℕ) → get_or (replicate n (pos 0)) k (pos 0) ≡ pos 0
zero_at zero k = refl
zero_at (suc n) zero = refl
zero_at (suc n) (suc k) = zero_at n k

-- zeros put where there was no row read as nothing does
pub zeros_read : (old new : Rows) (fund account : ℕ) (row : Vec ℤ) → PutsRow old new fund account row → row.items ≡ no_cells → has_row old fund account ≡ false → ReadsSame old new
zeros_read old new fund account row h zeros missing f a k =
    ap (λ cells. get_or cells k (pos 0)) (put_cells old new fund account row h f a) ∙ by_test ((fund == f) && (account == a)) refl
  where
    by_test : (b : Bool) → ((fund == f) && (account == a)) ≡ b → get_or (if b then row.items else cells_at old f a) k (pos 0) ≡ get_or (cells_at old f a) k (pos 0)
    by_test true e =
        let nothing : cells_at old f a ≡ [] = none_cells (row_of old f a) (there (λ m n. has_row old m n ≡ false) fund account f a e missing) in
        rw (zeros, nothing) (zero_at 231 k)
    by_test false e = refl
