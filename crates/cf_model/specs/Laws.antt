-- What holds of the definitions together: of months one by one, of interest by civil days, and of
-- calls that come again.
use Rattle.std.specs.Prelude.{◌≡◌, ℕ, zero, suc, ◌+◌, ◌*◌, ◌≤◌, not, nat_le, List, [], ◌∷◌, ◌++◌, Option, Some, None, find, sum_by, ℤ, pos, ◌+ℤ◌, ◌-ℤ◌, unsigned_abs}
use Rattle.std.specs.List.{filter}
use Rattle.cf_base.specs.declared.calendar.Day.{Day}
use Rattle.cf_calls.specs.declared.call.Change.{Change}
use Rattle.cf_calls.specs.declared.entry.Entry.{Entry}
use Rattle.cf_calls.specs.declared.reply.Verdict.{Verdict}
use Rattle.cf_calls.specs.declared.reply.Verdict.TheVariants.{Accept, Repeat, Refuse}
use Rattle.cf_chart.specs.Common.{Plan}
use Rattle.cf_model.specs.Assets.{Asset, charge, depreciation}
use Rattle.cf_model.specs.Bonds.{Bond, Due, coupon, dues, earned, interest_charge, interest_for}
use Rattle.cf_model.specs.RegisterRules.{month_at}
use Rattle.cf_model.specs.Step.{next_by, verdict_of}

-- ---- month by month

-- what the closes of the first so many months charge, of an asset and of a bond
abbrev pub charges_to : ℕ → Asset → ℕ
charges_to zero a = 0
charges_to (suc months) a = charges_to months a + charge months a

abbrev pub interest_to : ℕ → Bond → ℕ
interest_to zero b = 0
interest_to (suc months) b = interest_to months b + interest_charge months b

-- the charges of an asset's months are its accumulated depreciation, and those of a bond's months
-- the interest that it earned
abbrev pub ChargesAddUp : Type 0
ChargesAddUp = (a : Asset) (months : ℕ) → charges_to months a ≡ depreciation months a

abbrev pub InterestAddsUp : Type 0
InterestAddsUp = (b : Bond) (months : ℕ) → 1 ≤ b.day → interest_to months b ≡ earned months b

-- ---- interest by days

-- the days from one day to another by months of 30 days, where both are from the 1st to the 28th of
-- their months (own rule)
abbrev pub days30 : Day → Day → ℤ
days30 from to = pos (360 * to.year + 30 * to.month + to.day) -ℤ pos
    (360 * from.year + 30 * from.month + from.day)

-- a day of the month of a number
abbrev pub day_in : Plan → ℕ → ℕ → Day
day_in plan month day =
    record { year = (month_at plan month).year; month = (month_at plan month).month; day = day }

-- the days of a payment's period up to the end of a month: those to its first day, and 30
abbrev pub days_run : Plan → ℕ → Bond → Due → ℕ
days_run plan month b p =
    unsigned_abs (days30 (day_in plan p.from b.day) (day_in plan month 1) +ℤ pos 30)

abbrev pub running_interest : Plan → ℕ → Bond → Option Due → ℕ
running_interest plan month b None = 0
running_interest plan month b (Some p) = interest_for b p (days_run plan month b p)

-- what a bond has earned by the end of a month, from that of its issue on: the coupons due by then,
-- and the interest for the days that the next payment's period has run
abbrev pub EarnsByDays : Type 0
EarnsByDays = (plan : Plan) (b : Bond) (month : ℕ) → b.month ≤ month → 1 ≤ b.every → 1 ≤ b.day
    → b.day ≤ 28 →
    earned (month + 1) b
    ≡ sum_by (coupon b) (filter (λ p. nat_le p.month month) (dues b))
    + running_interest plan month b (find (λ p. not (nat_le p.month month)) (dues b))

-- ---- calls that come again

-- the history after changes that come one after another
abbrev pub history_after : Plan → List Entry → List Change → List Entry
history_after plan history [] = history
history_after plan history (c ∷ changes) =
    history_after plan (next_by (verdict_of plan history c) history c) changes

-- the change was accepted, now or before
abbrev pub IsTaken : Verdict → Type 0
IsTaken (Accept drawn) = Unit {0}
IsTaken (Repeat was) = Unit {0}
IsTaken (Refuse r) = ⊥

-- a change that was taken and comes again adds nothing, whatever came between: so changes with
-- repeats have the effect of each once
abbrev pub RepeatsAddNothing : Type 0
RepeatsAddNothing = (plan : Plan) (history : List Entry) (c : Change) (between later : List Change)
    → IsTaken (verdict_of plan history c) →
    history_after plan history (c ∷ (between ++ (c ∷ later)))
    ≡ history_after plan history (c ∷ (between ++ later))
