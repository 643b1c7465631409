-- Claims of a small grant, worked by hand: what the definitions say of them is computed by the
-- checker.
use Rattle.std.specs.Prelude.{◌≡◌, ℕ, List, [], ◌∷◌, ◌++◌, None, codes}
use Rattle.cf_model.specs.Common.{Close, Pay, Entry, entry, on, spends, town}
use Rattle.cf_calls.specs.declared.acts.Act.TheVariants.{Bill}
use Rattle.cf_calls.specs.declared.acts.Period.TheVariants as period
use Rattle.cf_claims.specs.Claims.{Claim, claim_lines, claims_of, share_of}
use Rattle.cf_grants.specs.declared.grant.Grant.{Grant}

-- 80 percent of what is spent on line 0, 50.00 in all
abbrev pub grant : Grant
grant = record { id = 7; source = 3; payer = 9; award = 5000; rate_bp = 8000; lines = 0 ∷ [] }

-- two vouchers of 40.00, which are paid then
abbrev pub spent : List Entry
spent = entry 1 (spends 4000) ∷ entry 2 (spends 4000) ∷ []

abbrev pub paid : List Entry
paid = spent ++ entry 0 (Pay (record { vouchers = 1 ∷ 2 ∷ [] })) ∷ []

abbrev pub claim : ℕ → ℕ → Claim
claim voucher cents = record { voucher = voucher; year = 2026; amount = cents }

-- the bill of the first claim
abbrev pub billed : Entry
billed = record {
  change = record {
    desk = 6;
    key = codes "claim-1";
    on = on 2026 1 15;
    after = None;
    act = Bill (record { source = 3; levy_year = 2026; payer = 9; amount = 3200 });
  };
  drawn = record { number = 1; second = 0 };
}

-- 32.00 of the first voucher, and the 18.00 that are left of the award of the second
abbrev pub SharesTheAward : Type 0
SharesTheAward =
    (claims_of town grant paid ≡ claim 1 3200 ∷ claim 2 1800 ∷ [])
    -- nothing before they are paid, and nothing of another line
    × (claims_of town grant spent ≡ [])
    × (claims_of town (record grant { lines = 1 ∷ [] }) paid ≡ [])
    -- what is billed isn't claimed again
    × (claims_of town grant (paid ++ billed ∷ []) ≡ claim 2 1800 ∷ [])
    -- nothing of a closed year
    × (claims_of town grant (paid ++ entry 0 (Close (period.Year 2026)) ∷ []) ≡ [])
    -- a share is rounded down
    × (share_of 8000 733333 ≡ 586666)

abbrev pub WritesBills : Type 0
WritesBills =
    claim_lines grant (on 2026 1 15) 6 (claim 1 3200 ∷ claim 2 1800 ∷ [])
    ≡ codes "{\"amount\":3200,\"call\":\"bill\",\"desk\":6,\"key\":\"claim-1\",\"levy_year\":2026,"
    ++ codes "\"on\":\"2026-01-15\",\"payer\":9,\"source\":3}\n"
    ++ codes "{\"amount\":1800,\"call\":\"bill\",\"desk\":6,\"key\":\"claim-2\",\"levy_year\":2026,"
    ++ codes "\"on\":\"2026-01-15\",\"payer\":9,\"source\":3}\n"
