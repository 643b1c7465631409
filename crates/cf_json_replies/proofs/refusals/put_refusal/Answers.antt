use Rattle.cf_json_replies.proofs.refusals.put_refusal.Goals as goal

pub returns-in-DeskUnknown-clause-text : goal.returns-in-DeskUnknown-clause-text
returns-in-DeskUnknown-clause-text c = rw c.in-DeskUnknown.is (rw c.in-DeskUnknown.is at c.put_middle.ensures.text)

pub returns-in-KeyReused-clause-text : goal.returns-in-KeyReused-clause-text
returns-in-KeyReused-clause-text c = rw c.in-KeyReused.is (rw c.in-KeyReused.is at c.put_last.ensures.text)

pub returns-in-NotThisDesk-clause-text : goal.returns-in-NotThisDesk-clause-text
returns-in-NotThisDesk-clause-text c = rw (c.in-NotThisDesk.is, ← c.role_word.ensures.value) (rw c.in-NotThisDesk.is at c.put_last-in-NotThisDesk.ensures.text)

pub returns-in-HistoryFull-clause-text : goal.returns-in-HistoryFull-clause-text
returns-in-HistoryFull-clause-text c = rw c.in-HistoryFull.is (rw c.in-HistoryFull.is at c.put_middle-in-HistoryFull.ensures.text)

pub returns-in-PeriodClosed-clause-text : goal.returns-in-PeriodClosed-clause-text
returns-in-PeriodClosed-clause-text c = rw c.in-PeriodClosed.is (rw c.in-PeriodClosed.is at c.put_middle-in-PeriodClosed.ensures.text)

pub returns-in-YearNotOpen-clause-text : goal.returns-in-YearNotOpen-clause-text
returns-in-YearNotOpen-clause-text c = rw c.in-YearNotOpen.is (rw c.in-YearNotOpen.is at c.put_last-in-YearNotOpen.ensures.text)

pub returns-in-YearClosed-clause-text : goal.returns-in-YearClosed-clause-text
returns-in-YearClosed-clause-text c = rw c.in-YearClosed.is (rw c.in-YearClosed.is at c.put_last-in-YearClosed.ensures.text)

pub returns-in-Adopted-clause-text : goal.returns-in-Adopted-clause-text
returns-in-Adopted-clause-text c = rw c.in-Adopted.is (rw c.in-Adopted.is at c.put_last-in-Adopted.ensures.text)

pub returns-in-SameHand-clause-text : goal.returns-in-SameHand-clause-text
returns-in-SameHand-clause-text c = rw c.in-SameHand.is (rw c.in-SameHand.is at c.put_middle-in-SameHand.ensures.text)

pub returns-in-OverOpen-clause-text : goal.returns-in-OverOpen-clause-text
returns-in-OverOpen-clause-text c = rw c.in-OverOpen.is (rw c.in-OverOpen.is at c.put_last-in-OverOpen.ensures.text)

pub returns-in-OverReceivable-clause-text : goal.returns-in-OverReceivable-clause-text
returns-in-OverReceivable-clause-text c = rw c.in-OverReceivable.is (rw c.in-OverReceivable.is at c.put_middle-in-OverReceivable.ensures.text)

pub returns-in-NotDue-clause-text : goal.returns-in-NotDue-clause-text
returns-in-NotDue-clause-text c = rw c.in-NotDue.is (rw c.in-NotDue.is at c.put_last-in-NotDue.ensures.text)

pub returns-in-LeaveShort-clause-text : goal.returns-in-LeaveShort-clause-text
returns-in-LeaveShort-clause-text c = rw c.in-LeaveShort.is (rw c.in-LeaveShort.is at c.put_middle-in-LeaveShort.ensures.text)

pub returns-in-MonthOrder-clause-text : goal.returns-in-MonthOrder-clause-text
returns-in-MonthOrder-clause-text c = rw c.in-MonthOrder.is (rw c.in-MonthOrder.is at c.put_last-in-MonthOrder.ensures.text)

pub returns-in-WindowOpen-clause-text : goal.returns-in-WindowOpen-clause-text
returns-in-WindowOpen-clause-text c = rw c.in-WindowOpen.is (rw c.in-WindowOpen.is at c.put_middle-in-WindowOpen.ensures.text)
