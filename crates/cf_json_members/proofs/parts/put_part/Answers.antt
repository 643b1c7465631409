use Rattle.std.proofs.Common.{◌≡◌, ◌++◌, ℕ, List, OnOk, subst}
use Rattle.json.specs.Print.{quoted}
use Rattle.cf_json_members.specs.Objects.{text_of}
use Rattle.cf_json_members.proofs.parts.put_part.Goals as goal

pub returns-in-Date-clause-text : goal.returns-in-Date-clause-text
unfolding text_of
returns-in-Date-clause-text c =
    rw c.in-Date.is (subst (λ (text : List ℕ). OnOk c.put_quoted.result (c.put_quoted.new.out.items ≡ c.args.out.now.items ++ quoted text)) c.day_text.ensures c.put_quoted.ensures.text)
