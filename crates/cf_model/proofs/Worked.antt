-- The worked rows: each side is computed.
use Rattle.std.proofs.Common.{refl}
use Rattle.jiff_core.specs.Calendar.{days_from_civil, day_count, days_of_years, days_of_months}
use Rattle.cf_base.specs.Common.{day_of_number}
use Rattle.cf_model.specs.Common.{years_end, exceed_refusal, SpendsToTheCent, TellsRoom, LiquidatesOrders, RollsOrders, RecognisesCollections, DepreciatesByMonths, EarnsInterest, KeepsLeave, JoinsBothBases, TellsRepeats, RefusesInOrder, ClosesInOrder, PaysFromCash}

pub spends_to_the_cent : SpendsToTheCent
spends_to_the_cent = (refl, refl, refl, refl, refl, refl)

pub tells_room : TellsRoom
unfolding exceed_refusal years_end
tells_room = (refl, refl)

pub liquidates_orders : LiquidatesOrders
liquidates_orders = (refl, refl, refl, refl, refl, refl)

pub rolls_orders : RollsOrders
rolls_orders = (refl, refl, refl, refl)

pub recognises_collections : RecognisesCollections
unfolding days_from_civil day_count days_of_years days_of_months
recognises_collections = (refl, refl, refl, refl, refl)

pub depreciates_by_months : DepreciatesByMonths
depreciates_by_months = (refl, refl, refl, refl, refl)

pub earns_interest : EarnsInterest
earns_interest = (refl, refl, refl)

pub keeps_leave : KeepsLeave
keeps_leave = (refl, refl, refl)

pub joins_both_bases : JoinsBothBases
unfolding days_from_civil day_count days_of_years days_of_months
joins_both_bases = (refl, refl, refl, refl, refl, refl, refl, refl, refl, refl, refl)

pub tells_repeats : TellsRepeats
tells_repeats = (refl, refl, refl)

pub refuses_in_order : RefusesInOrder
refuses_in_order = (refl, refl, refl, refl, refl, refl, refl, refl, refl)

pub closes_in_order : ClosesInOrder
unfolding days_from_civil day_count days_of_years days_of_months day_of_number
closes_in_order = (refl, refl, refl)

pub pays_from_cash : PaysFromCash
pays_from_cash = (refl, refl)
