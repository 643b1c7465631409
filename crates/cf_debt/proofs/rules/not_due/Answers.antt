use Rattle.std.proofs.Common.{sym, ◌∙◌}
use Rattle.cf_debt.proofs.Refusing.{refused, not_refused}
use Rattle.cf_model.specs.Common.{is_before}
use Rattle.cf_calls.specs.declared.refusal.Refusal.TheVariants as refusal
use Rattle.cf_debt.proofs.rules.not_due.Goals as goal

pub returns-then-is_before : goal.returns-then-is_before
returns-then-is_before c all = refused (is_before c.args.on) refusal.NotDue _ _ (c.due_day-next.ensures all) (sym c.is_before.ensures ∙ c.if-is_before.true)

pub returns-else-is_before : goal.returns-else-is_before
returns-else-is_before c all = not_refused (is_before c.args.on) refusal.NotDue _ _ (c.due_day-next.ensures all) (sym c.is_before.ensures ∙ c.if-is_before.false)
