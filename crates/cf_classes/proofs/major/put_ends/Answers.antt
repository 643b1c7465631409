use Rattle.cf_base.proofs.Common.{on_ok_weaker}
use Rattle.cf_classes.proofs.Together.{two_added}
use Rattle.cf_classes.proofs.major.put_ends.Goals as goal

pub returns : goal.returns
returns c = on_ok_weaker c.put_elements-2.result (λ e. two_added c.args.rows.now.items _ _ _ _ c.in_ok-put_elements.ensures e) c.put_elements-2.ensures
