-- A day that was read is one of the calendar.
use Rattle.std.proofs.Common.{◌≡◌, ℕ, List, Bool, true, false, cond, Option, Some, None, refl, IfSome}
use Rattle.cf_base.specs.declared.calendar.Day.{Day}
use Rattle.cf_base.specs.Common.{is_day, is_day_form, day_if, day_written, day_of_text}

within : (formed : Bool) (o : Option Day) → IfSome o (λ d. is_day d ≡ true) → IfSome (cond formed o None) (λ d. is_day d ≡ true)
within true o h = h
within false o h = tt

day_if-is_day : (d : Day) (b : Bool) → is_day d ≡ b → IfSome (cond b (Some d) None) (λ e. is_day e ≡ true)
day_if-is_day d true is = is
day_if-is_day d false is = tt

pub day_of_text-is_day : (text : List ℕ) → IfSome (day_of_text text) (λ d. is_day d ≡ true)
day_of_text-is_day text = within (is_day_form text) (day_if (day_written text)) (day_if-is_day (day_written text) (is_day (day_written text)) refl)
