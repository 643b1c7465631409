-- The text of a value is read back as that value, with the members of its objects in order.
use Rattle.std.proofs.Common.{◌≡◌, ℕ, zero, suc, ◌<◌, ◌≤◌, ◌^◌, ◌&&◌, pos, negsuc, List, [], ◌∷◌, Bool, true, false, Option, Some, option_map, option_and_then, decimal, refl, sym, ap, ◌∙◌, arith, append-nil, ltb-true, lt-ltb, IsUtf8}
use Rattle.std.specs.Str.{is_utf8}
use Rattle.cf_base.proofs.Common.{and_parts, false≢true, IsUtf8-append, is_utf8-from_IsUtf8, decimal_is_IsNumeral, digit_from_value, AllDigits}
use Rattle.json.specs.Json as json
use Rattle.json.specs.Token.{Token}
use Rattle.json.specs.Tree as tree
use Rattle.json.specs.Print.{quoted}
use Rattle.json.proofs.Printed.Decimals.{IsNumber-decimal, IsNumber-signed_decimal}
use Rattle.json.proofs.Printed.Tokens.{tokens-print}
use Rattle.json.proofs.Printed.Trees.{value-json_tokens, ArePrintable-json_tokens}
use Rattle.json.proofs.Printed.Utf8.{are_ascii, IsUtf8-quoted, IsUtf8-are_ascii, IsUtf8-boolean}
use Rattle.serde_json.specs.Data.{Num, unsigned, negative, float, Data, null, boolean, number, string, array, object, Items, no_items, item, Members, no_members, member, put}
use Rattle.serde_json.specs.Read.{read, max_depth, number_of, of_json, of_items, of_members}
use Rattle.serde_json.specs.Written.{number_text, outline, items_outline, members_outline, compact_text, items_text, members_text, comma_if}
use Rattle.serde_json.proofs.Numbers.{number_of-decimal, number_of-negative}
use Rattle.serde_json.proofs.Texts.{print-outline}
use Rattle.cf_json_calls.proofs.Sorted.{sorted, items_sorted, put_each, is_short, can_read, items_can_read, members_can_read}

number_read : (n : Num) → is_short n ≡ true → number_of (number_text n) ≡ Some n
number_read (unsigned n) h = number_of-decimal n (ltb-true _ _ h)
number_read (negative (pos n)) h = cc
number_read (negative (negsuc n)) h = number_of-negative n (ltb-true _ _ h)
number_read (float x) h = cc

mutual
  of_json-outline : (n : ℕ) (d : Data) → can_read n d ≡ true → of_json (outline d) ≡ Some (sorted d)
  of_json-outline n null h = refl
  of_json-outline n (boolean b) h = refl
  of_json-outline n (number x) h = ap (option_map number) (number_read x h)
  of_json-outline n (string s) h = refl
  of_json-outline zero (array ds) h = cc
  of_json-outline (suc n) (array ds) h = ap (option_map array) (of_items-outline n ds h)
  of_json-outline zero (object ms) h = cc
  of_json-outline (suc n) (object ms) h = ap (option_map object) (of_members-outline n ms no_members h)

  of_items-outline : (n : ℕ) (ds : Items) → items_can_read n ds ≡ true → of_items (items_outline ds) ≡ Some (items_sorted ds)
  of_items-outline n no_items h = refl
  of_items-outline n (item d ds) h = let p = and_parts (can_read n d) (items_can_read n ds) h in rw (of_json-outline n d p.0, of_items-outline n ds p.1)

  of_members-outline : (n : ℕ) (ms found : Members) → members_can_read n ms ≡ true → of_members (members_outline ms) found ≡ Some (put_each ms found)
  of_members-outline n no_members found h = refl
  of_members-outline n (member k d ms) found h =
      let p = and_parts (are_ascii k && can_read n d) (members_can_read n ms) h in
      let q = and_parts (are_ascii k) (can_read n d) p.0 in
      rw (of_json-outline n d q.1) (of_members-outline n ms (put k (sorted d) found) p.1)

number_form : (n : Num) → is_short n ≡ true → tree.HasNumbers (json.number (number_text n))
number_form (unsigned n) h = IsNumber-decimal n (ltb-true _ _ h)
number_form (negative (pos n)) h = cc
number_form (negative (negsuc n)) h = IsNumber-signed_decimal (negsuc n) (omega (arith, ltb-true _ _ h))
number_form (float x) h = cc

mutual
  HasNumbers-outline : (n : ℕ) (d : Data) → can_read n d ≡ true → tree.HasNumbers (outline d)
  HasNumbers-outline n null h = tt
  HasNumbers-outline n (boolean b) h = tt
  HasNumbers-outline n (number x) h = number_form x h
  HasNumbers-outline n (string s) h = tt
  HasNumbers-outline zero (array ds) h = absurd (false≢true h)
  HasNumbers-outline (suc n) (array ds) h = ItemsHaveNumbers-outline n ds h
  HasNumbers-outline zero (object ms) h = absurd (false≢true h)
  HasNumbers-outline (suc n) (object ms) h = MembersHaveNumbers-outline n ms h

  ItemsHaveNumbers-outline : (n : ℕ) (ds : Items) → items_can_read n ds ≡ true → tree.ItemsHaveNumbers (items_outline ds)
  ItemsHaveNumbers-outline n no_items h = tt
  ItemsHaveNumbers-outline n (item d ds) h = let p = and_parts (can_read n d) (items_can_read n ds) h in (HasNumbers-outline n d p.0, ItemsHaveNumbers-outline n ds p.1)

  MembersHaveNumbers-outline : (n : ℕ) (ms : Members) → members_can_read n ms ≡ true → tree.MembersHaveNumbers (members_outline ms)
  MembersHaveNumbers-outline n no_members h = tt
  MembersHaveNumbers-outline n (member k d ms) h =
      let p = and_parts (are_ascii k && can_read n d) (members_can_read n ms) h in
      let q = and_parts (are_ascii k) (can_read n d) p.0 in
      (HasNumbers-outline n d q.1, MembersHaveNumbers-outline n ms p.1)

mutual
  depth-outline : (n : ℕ) (d : Data) → can_read n d ≡ true → tree.depth (outline d) ≤ n
  depth-outline n null h = omega arith
  depth-outline n (boolean b) h = omega arith
  depth-outline n (number x) h = omega arith
  depth-outline n (string s) h = omega arith
  depth-outline zero (array ds) h = absurd (false≢true h)
  depth-outline (suc n) (array ds) h = let below = items_depth-outline n ds h in omega arith
  depth-outline zero (object ms) h = absurd (false≢true h)
  depth-outline (suc n) (object ms) h = let below = members_depth-outline n ms h in omega arith

  items_depth-outline : (n : ℕ) (ds : Items) → items_can_read n ds ≡ true → tree.items_depth (items_outline ds) ≤ n
  items_depth-outline n no_items h = omega arith
  items_depth-outline n (item d ds) h =
      let p = and_parts (can_read n d) (items_can_read n ds) h in
      let first = depth-outline n d p.0 in
      let others = items_depth-outline n ds p.1 in
      omega arith

  members_depth-outline : (n : ℕ) (ms : Members) → members_can_read n ms ≡ true → tree.members_depth (members_outline ms) ≤ n
  members_depth-outline n no_members h = omega arith
  members_depth-outline n (member k d ms) h =
      let p = and_parts (are_ascii k && can_read n d) (members_can_read n ms) h in
      let q = and_parts (are_ascii k) (can_read n d) p.0 in
      let first = depth-outline n d q.1 in
      let others = members_depth-outline n ms p.1 in
      omega arith

-- the value that a JSON is, where nothing follows it
abbrev whole : Option (json.Json × List Token) → Option Data
whole o = option_and_then of_json (option_and_then (λ p. json.if_last p.0 p.1) o)

-- the value of a value's text
pub read-compact_text : (n : ℕ) (d : Data) → can_read n d ≡ true → n ≤ max_depth → read (compact_text d) ≡ Some (sorted d)
read-compact_text n d h shallow =
    let same = ap read (sym (print-outline d)) in
    same
    ∙ ap whole (ap (json.value max_depth) (tokens-print _ (ArePrintable-json_tokens (outline d) (HasNumbers-outline n d h)) ∙ sym (append-nil _)) ∙ value-json_tokens (outline d) max_depth [] (omega (arith, depth-outline n d h)))
    ∙ of_json-outline n d h

-- ---- the text is UTF-8

digits-ascii : (ds : List ℕ) → AllDigits 10 ds → are_ascii ds ≡ true
digits-ascii [] h = refl
digits-ascii (d ∷ ds) h = let range = digit_from_value d h.0 in rw (lt-ltb d 128 (omega (arith, range))) (digits-ascii ds h.1)

decimal-utf8 : (n : ℕ) → n < 2 ^ 64 → IsUtf8 (decimal n)
decimal-utf8 n h = IsUtf8-are_ascii (decimal n) (digits-ascii (decimal n) (decimal_is_IsNumeral n h).0.1)

byte_then : (x : ℕ) (xs : List ℕ) → are_ascii (x ∷ []) ≡ true → IsUtf8 xs → IsUtf8 (x ∷ xs)
byte_then x xs small h = IsUtf8-append (x ∷ []) xs (IsUtf8-are_ascii (x ∷ []) small) h

number-utf8 : (n : Num) → is_short n ≡ true → IsUtf8 (number_text n)
number-utf8 (unsigned n) h = decimal-utf8 n (ltb-true _ _ h)
number-utf8 (negative (pos n)) h = absurd (false≢true h)
number-utf8 (negative (negsuc n)) h = let small = ltb-true _ _ h in byte_then 45 (decimal (suc n)) refl (decimal-utf8 (suc n) (omega arith))
number-utf8 (float x) h = absurd (false≢true h)

comma-utf8 : (later : Bool) → IsUtf8 (comma_if later)
comma-utf8 true = IsUtf8-are_ascii _ refl
comma-utf8 false = IsUtf8-are_ascii _ refl

mutual
  value-utf8 : (n : ℕ) (d : Data) → can_read n d ≡ true → IsUtf8 (compact_text d)
  value-utf8 n null h = IsUtf8-are_ascii _ refl
  value-utf8 n (boolean b) h = IsUtf8-boolean b
  value-utf8 n (number x) h = number-utf8 x h
  value-utf8 n (string s) h = IsUtf8-quoted s (IsUtf8-are_ascii s h)
  value-utf8 zero (array ds) h = absurd (false≢true h)
  value-utf8 (suc n) (array ds) h = byte_then 91 _ refl (items-utf8 n false ds h)
  value-utf8 zero (object ms) h = absurd (false≢true h)
  value-utf8 (suc n) (object ms) h = byte_then 123 _ refl (members-utf8 n false ms h)

  items-utf8 : (n : ℕ) (later : Bool) (ds : Items) → items_can_read n ds ≡ true → IsUtf8 (items_text later ds)
  items-utf8 n later no_items h = IsUtf8-are_ascii _ refl
  items-utf8 n later (item d ds) h =
      let p = and_parts (can_read n d) (items_can_read n ds) h in
      IsUtf8-append (comma_if later) _ (comma-utf8 later) (IsUtf8-append (compact_text d) _ (value-utf8 n d p.0) (items-utf8 n true ds p.1))

  members-utf8 : (n : ℕ) (later : Bool) (ms : Members) → members_can_read n ms ≡ true → IsUtf8 (members_text later ms)
  members-utf8 n later no_members h = IsUtf8-are_ascii _ refl
  members-utf8 n later (member k d ms) h =
      let p = and_parts (are_ascii k && can_read n d) (members_can_read n ms) h in
      let q = and_parts (are_ascii k) (can_read n d) p.0 in
      IsUtf8-append (comma_if later) _ (comma-utf8 later)
      (IsUtf8-append (quoted k) _ (IsUtf8-quoted k (IsUtf8-are_ascii k q.0))
      (byte_then 58 _ refl (IsUtf8-append (compact_text d) _ (value-utf8 n d q.1) (members-utf8 n true ms p.1))))

pub compact_text-utf8 : (n : ℕ) (d : Data) → can_read n d ≡ true → is_utf8 (compact_text d) ≡ true
compact_text-utf8 n d h = is_utf8-from_IsUtf8 (compact_text d) (value-utf8 n d h)
