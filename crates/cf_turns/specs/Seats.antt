-- What a recorder and a pass keep of their own: the numbers that they run with are those of their
-- seats' views.
use Rattle.std.specs.Prelude.{◌≡◌, ℕ, true, false, [], length}
use Rattle.cf_turns.specs.Steps.{Seated}

pub record IsRecorderSeat (seat : Seated) (len : ℕ) : Type 0 where
  pub no_slot : seat.1 ≡ []
  pub records : seat.0.records ≡ true
  pub no_number : seat.0.has_number ≡ false
  pub len_is : len ≡ length seat.0.list

pub record IsPassSeat (seat : Seated) (len accepted : ℕ) : Type 0 where
  pub no_slot : seat.1 ≡ []
  pub no_recorder : seat.0.records ≡ false
  pub number : seat.0.has_number ≡ true
  pub len_is : len ≡ length seat.0.list
  pub accepted_is : accepted ≡ length seat.0.places
