use Rattle.cf_base.proofs.Common.{on_ok_weaker}
use Rattle.cf_books.proofs.Steps.{two_texts}
use Rattle.cf_books.proofs.notices.put_entries.Goals as goal

pub returns : goal.returns
returns c = on_ok_weaker c.put_number.result (two_texts _ _ _ _ _ c.in_ok-put_between.ensures) c.put_number.ensures.text
