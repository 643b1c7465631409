use Rattle.cf_json_lines.proofs.Appended.{line_appended}
use Rattle.cf_json_lines.proofs.lines.put_receipt.Goals as goal

pub returns : goal.returns
returns c = line_appended c.args.out.now.items _ _ _ c.in_ok-put_object.ensures.text c.in_ok-push.ensures.items
