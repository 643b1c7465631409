use Rattle.cf_json_members.proofs.Days.{day_of_text-is_day}
use Rattle.cf_json_members.proofs.kinds.DayTextFieldKind.read.Goals as goal

pub returns-in-Some-clause-form : goal.returns-in-Some-clause-form
returns-in-Some-clause-form c = rw c.read_day.ensures (day_of_text-is_day c.as_bytes.result.now)
