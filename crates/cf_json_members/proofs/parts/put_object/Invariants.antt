use Rattle.std.proofs.Common.{◌≡◌, ◌+◌, ◌≤◌, ◌++◌, true, drop, vec_len, vec_capacity}
use Rattle.cf_base.proofs.Common.{list_all}
use Rattle.serde_json.specs.Written.{members_text}
use Rattle.cf_json_members.specs.Objects.{members}
use Rattle.cf_json_members.specs.Parts.{is_plain_field, fields_of, fields_room}
use Rattle.cf_json_members.proofs.parts.put_object.Given as goal

abbrev pub invariant-loop-field : goal.invariant-loop-field
invariant-loop-field l = record {
  text : l.out.items ++ members_text l.later (members (fields_of (drop l.field-index l.fields))) ≡ l.initial.out.items ++ members_text l.initial.later (members (fields_of l.fields));
  plain : list_all is_plain_field (drop l.field-index l.fields) ≡ true;
  longer : vec_len l.out + fields_room (drop l.field-index l.fields) ≤ vec_len l.initial.out + fields_room l.fields;
  capacity : vec_capacity l.initial.out ≤ vec_capacity l.out;
}
