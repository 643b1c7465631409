use Rattle.std.proofs.Common.{rules}
use Rattle.cf_base.proofs.Common.{btree_map_updates_text}
use Rattle.cf_office_history.proofs.Texts.{text_put}
use Rattle.cf_office_history.proofs.keys.put_text.Goals as goal

pub returns-in-Some : goal.returns-in-Some
returns-in-Some c q =
    text_put c.args.keys.now (c.get_mut.follows.lender c.args.place) c.args.key.now q c.args.place
    (btree_map_updates_text c.args.key.now c.args.keys.now (c.get_mut.follows.lender c.args.place) _ ((c.get_mut.follows.holds c.args.place).3 (search rules)) q)
