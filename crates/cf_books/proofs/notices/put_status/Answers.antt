use Rattle.cf_base.proofs.Common.{on_ok_weaker}
use Rattle.cf_books.proofs.Steps.{two_texts}
use Rattle.cf_books.proofs.notices.put_status.Goals as goal

pub returns-in_ok-put_text-in-ChartRefused : goal.returns-in_ok-put_text-in-ChartRefused
returns-in_ok-put_text-in-ChartRefused c =
    rw c.in-ChartRefused.is (on_ok_weaker c.put_fault.result (two_texts _ _ _ _ _ c.in_ok-put_text-in-ChartRefused.ensures) c.put_fault.ensures)

pub returns-in_ok-put_text-in-GrantsRefused : goal.returns-in_ok-put_text-in-GrantsRefused
returns-in_ok-put_text-in-GrantsRefused c =
    rw c.in-GrantsRefused.is (on_ok_weaker c.put_fault-in-GrantsRefused.result (two_texts _ _ _ _ _ c.in_ok-put_text-in-GrantsRefused.ensures) c.put_fault-in-GrantsRefused.ensures)
