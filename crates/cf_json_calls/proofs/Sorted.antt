-- What is read of a value's text: the value with the members of its objects in order.
use Rattle.std.proofs.Common.{ℕ, zero, suc, pos, negsuc, ◌&&◌, ◌^◌, Bool, true, false, nat_lt}
use Rattle.json.proofs.Printed.Utf8.{are_ascii}
use Rattle.serde_json.specs.Data.{Num, unsigned, negative, float, Data, null, boolean, number, string, array, object, Items, no_items, item, Members, no_members, member, put}

abbrev mutual
  pub sorted : Data → Data
  sorted null = null
  sorted (boolean b) = boolean b
  sorted (number n) = number n
  sorted (string s) = string s
  sorted (array ds) = array (items_sorted ds)
  sorted (object ms) = object (put_each ms no_members)

  pub items_sorted : Items → Items
  items_sorted no_items = no_items
  items_sorted (item d ds) = item (sorted d) (items_sorted ds)

  -- the members, put in one after another
  pub put_each : Members → Members → Members
  put_each no_members found = found
  put_each (member k d ms) found = put_each ms (put k (sorted d) found)

-- an integer that reads back
abbrev pub is_short : Num → Bool
is_short (unsigned n) = nat_lt n (2 ^ 64)
is_short (negative (pos n)) = false
is_short (negative (negsuc n)) = nat_lt n (2 ^ 63)
is_short (float x) = false

-- a value whose text is read back: its integers have at most 64 bits, its texts are ASCII, and it
-- nests at most so deep
abbrev mutual
  pub can_read : ℕ → Data → Bool
  can_read depth null = true
  can_read depth (boolean b) = true
  can_read depth (number n) = is_short n
  can_read depth (string s) = are_ascii s
  can_read zero (array ds) = false
  can_read (suc depth) (array ds) = items_can_read depth ds
  can_read zero (object ms) = false
  can_read (suc depth) (object ms) = members_can_read depth ms

  pub items_can_read : ℕ → Items → Bool
  items_can_read depth no_items = true
  items_can_read depth (item d ds) = can_read depth d && items_can_read depth ds

  pub members_can_read : ℕ → Members → Bool
  members_can_read depth no_members = true
  members_can_read depth (member k d ms) = are_ascii k && can_read depth d && members_can_read depth ms
