-- What a run says that only reads the journal.
use Rattle.std.specs.Prelude.{◌≡◌, IsTrue}
use Rattle.cf_disk.specs.Moments.{AtEachMoment}
use Rattle.cf_run_status.specs.Devices.{Device}

-- The disk wasn't written: a read gives what it gave, and at each moment of the run a crash left
-- what it could have left before it.
pub record IsUnwritten {D : Type 0} (device : Device D) (old new : D) : Type 0 where
  pub content : IsTrue device.tells → device.content new ≡ device.content old
  pub any_moment : AtEachMoment device.moment device.was_image old new (device.is_image old)
