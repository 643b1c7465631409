use Rattle.std.proofs.Common.{◌≡◌, ◌++◌, ◌∙◌, ap, codes}
use Rattle.cf_base.proofs.Common.{on_ok_weaker}
use Rattle.serde_json.specs.Data.{string}
use Rattle.cf_json_members.specs.Objects.{text_of}
use Rattle.cf_json_members.proofs.ObjectTexts.{fields-head}
use Rattle.cf_json_replies.proofs.form.write_fields.Goals as goal

pub returns-clause-text : goal.returns-clause-text
returns-clause-text c =
    let json : c.as_str.result.now ≡ text_of (string c.args.name.now) = c.as_str.ensures.value ∙ c.in_ok-json.ensures in
    on_ok_weaker c.put_name.result
    (λ e. e ∙ rw (c.reserve.ensures.items, json) (ap (λ t. c.args.out.now.items ++ t) (fields-head (codes "form") (codes "name") (string (codes "fields")) (string c.args.name.now))))
    c.put_name.ensures.text
