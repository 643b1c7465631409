-- What is read of a line that shares a month's interest is that receipt.
use Rattle.std.proofs.Common.{◌≡◌, ℕ, ◌^◌, ◌<◌, true}
use Rattle.cf_base.specs.Common.{is_call_month}
use Rattle.cf_base.specs.declared.calendar.Month.{Month}
use Rattle.cf_json_laws.proofs.ReadBack.{receipt-back}
use Rattle.cf_pool.specs.Shares.{hand_of, AreReadBack}
use Rattle.cf_pool.proofs.Forms.{share_form}

pub read_back : (desk : ℕ) (month : Month) → is_call_month month ≡ true → desk < 2 ^ 16 → AreReadBack desk month
read_back desk month h d =
    λ fund r f s a. receipt-back (hand_of desk month fund) r (share_form desk month fund r h f) (record { desk = d; act = (s, a); after = tt })
