use Rattle.std.proofs.Common.{arith}
use Rattle.cf_json_members.proofs.ObjectTexts.{no_field, push_listed, listed_room, listed_plain}
use Rattle.cf_json_members.proofs.parts.put_object.Goals as goal

pub put_next_field-requires : goal.put_next_field-requires
put_next_field-requires c =
    let plain = listed_plain c.args.fields.now c.loop-field.field-index no_field c.loop-field-test.true c.loop-field.invariant.plain in
    record { name = plain.0; part = plain.1 }

pub loop-field-preserved : goal.loop-field-preserved
loop-field-preserved c =
    let fields = c.args.fields.now in
    let i = c.loop-field.field-index in
    let room = listed_room fields i no_field c.loop-field-test.true in
    record {
      text =
          push_listed c.loop-field.out.items c.put_next_field.new.out.items _ c.loop-field.later fields i no_field c.loop-field-test.true
          c.in_ok-put_next_field.ensures.text c.loop-field.invariant.text;
      plain = (listed_plain fields i no_field c.loop-field-test.true c.loop-field.invariant.plain).2;
      longer = omega (arith, c.put_next_field.ensures.longer, room);
      capacity = omega (arith, c.put_next_field.ensures.capacity);
    }
