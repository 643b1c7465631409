use Rattle.std.proofs.Common.{◌≡◌, ◌++◌, true, drop}
use Rattle.cf_base.proofs.Common.{list_all}
use Rattle.cf_json_members.specs.Parts.{is_plain_field, fields_of}
use Rattle.cf_json_calls.specs.CallText.{fields_text}
use Rattle.cf_json_calls.proofs.pieces.put_fields.Given as goal

abbrev pub invariant-loop-field : goal.invariant-loop-field
invariant-loop-field l = record {
  text : l.out.items ++ fields_text l.later (fields_of (drop l.field-index l.fields)) ≡ l.initial.out.items ++ fields_text l.initial.later (fields_of l.fields);
  plain : list_all is_plain_field (drop l.field-index l.fields) ≡ true;
}
