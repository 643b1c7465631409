-- The texts of objects, piece by piece.
use Rattle.std.proofs.Common.{◌≡◌, ℕ, ◌+◌, ◌<◌, Bool, true, List, [], ◌∷◌, ◌++◌, length, get_or, drop, sym, ◌∙◌, append_assoc, Bor}
use Rattle.cf_base.proofs.Common.{list_all, and_parts, at_drop_more}
use Rattle.json.specs.Print.{quoted}
use Rattle.serde_json.specs.Data.{Data, Members, member}
use Rattle.serde_json.specs.Written.{members_text, comma_if}
use Rattle.cf_json_members.specs.declared.parts.Part.{Part}
use Rattle.cf_json_members.specs.declared.parts.Part.TheVariants.{Number}
use Rattle.cf_json_members.specs.Objects.{fields, head_text, members, text_of}
use Rattle.cf_json_members.specs.Parts.{part_data, is_plain, is_plain_part, is_plain_field, fields_of, field_room, fields_room}

-- an object of two fields, as its head, its second value and its end
pub fields-head : (first second : List ℕ) (value x : Data) → head_text first value second ++ (text_of x ++ 125 ∷ []) ≡ text_of (fields ((first, value) ∷ (second, x) ∷ []))
unfolding text_of
fields-head first second value x = simp append_assoc

-- one field more is written
push_field : (old new all : List ℕ) (later : Bool) (name : List ℕ) (value : Data) (more : Members)
    → new ≡ old ++ (comma_if later ++ (quoted name ++ 58 ∷ text_of value))
    → old ++ members_text later (member name value more) ≡ all → new ++ members_text true more ≡ all
unfolding text_of
push_field old new all later name value more pushed rest = rw (pushed, append_assoc, append_assoc, append_assoc) rest

-- what is behind the last field
abbrev pub no_field : Bor (List ℕ) × Part
no_field = (record { ref_ptr = (0, 0); now = [] }, Number 0)

-- one of the fields more
pub push_listed : (old new all : List ℕ) (later : Bool) (fs : List (Bor (List ℕ) × Part)) (i : ℕ) (d : Bor (List ℕ) × Part) → i < length fs
    → new ≡ old ++ (comma_if later ++ (quoted (get_or fs i d).0.now ++ 58 ∷ text_of (part_data (get_or fs i d).1)))
    → old ++ members_text later (members (fields_of (drop i fs))) ≡ all
    → new ++ members_text true (members (fields_of (drop (i + 1) fs))) ≡ all
push_listed old new all later fs i d within pushed rest =
    push_field old new all later (get_or fs i d).0.now (part_data (get_or fs i d).1) (members (fields_of (drop (i + 1) fs))) pushed
    (sym (at_drop_more (λ gs. old ++ members_text later (members (fields_of gs))) fs i d within) ∙ rest)

-- the room of the fields from one on
pub listed_room : (fs : List (Bor (List ℕ) × Part)) (i : ℕ) (d : Bor (List ℕ) × Part) → i < length fs
    → fields_room (drop i fs) ≡ field_room (get_or fs i d) + fields_room (drop (i + 1) fs)
listed_room fs i d within = at_drop_more fields_room fs i d within

-- and that they are plain, the first and the others
pub listed_plain : (fs : List (Bor (List ℕ) × Part)) (i : ℕ) (d : Bor (List ℕ) × Part) → i < length fs → list_all is_plain_field (drop i fs) ≡ true
    → (list_all is_plain (get_or fs i d).0.now ≡ true) × (is_plain_part (get_or fs i d).1 ≡ true) × (list_all is_plain_field (drop (i + 1) fs) ≡ true)
listed_plain fs i d within plain =
    let parts = and_parts (is_plain_field (get_or fs i d)) (list_all is_plain_field (drop (i + 1) fs)) (sym (at_drop_more (list_all is_plain_field) fs i d within) ∙ plain) in
    let field = and_parts (list_all is_plain (get_or fs i d).0.now) (is_plain_part (get_or fs i d).1) parts.0 in
    (field.0, field.1, parts.1)
