-- What is needed of an entry.
use Rattle.std.specs.Prelude.{◌≡◌, true}
use Rattle.cf_base.specs.Common.{is_day}
use Rattle.cf_calls.specs.Common.{IsActInForm}
use Rattle.cf_model.specs.Common.{Entry}

-- its day is one, and its act is in form
pub record IsDated (e : Entry) : Type 0 where
  pub day : is_day e.change.on ≡ true
  pub act : IsActInForm e.change.on e.change.act
