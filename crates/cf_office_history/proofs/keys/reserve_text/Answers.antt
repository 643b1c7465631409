use Rattle.std.proofs.Common.{◌∙◌, sym, subst, ◌≡◌, ℕ, List, Some, None, string_bytes, if◌then◌else◌, bytes_eq}
use Rattle.cf_base.proofs.Common.{get_by_text, btree_map_updates_text}
use Rattle.cf_office_history.proofs.Texts.{text_reserved, none_of}
use Rattle.cf_office_history.proofs.keys.reserve_text.Goals as goal

pub returns-clause-same : goal.returns-clause-same
returns-clause-same c q =
    let missing : get_by_text c.args.keys.now c.args.key.now ≡ None = none_of _ (sym c.contains_key.ensures ∙ c.if-contains_key.false) in
    let same : string_bytes c.in_ok-owned.owned ≡ c.args.key.now = c.in_ok-owned.ensures.ok in
    let P : List ℕ → Type 0 = λ bs. get_by_text c.insert.new.self q ≡ (if bytes_eq bs q then Some 0 else get_by_text c.args.keys.now q) in
    text_reserved c.args.keys.now c.insert.new.self c.args.key.now q missing
    (subst P same (btree_map_updates_text _ c.args.keys.now c.insert.new.self _ c.in_ok-insert.ensures.updates q))
