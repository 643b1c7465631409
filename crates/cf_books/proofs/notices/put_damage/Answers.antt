use Rattle.cf_base.proofs.Common.{on_ok_weaker}
use Rattle.cf_books.proofs.Steps.{two_texts}
use Rattle.cf_books.proofs.notices.put_damage.Goals as goal

pub returns-in-None : goal.returns-in-None
returns-in-None c = rw c.in-None.is (on_ok_weaker c.put_text.result (two_texts _ _ _ _ _ c.in_ok-put_between.ensures) c.put_text.ensures)
