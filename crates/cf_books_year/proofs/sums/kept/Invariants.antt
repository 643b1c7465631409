use Rattle.std.proofs.Common.{◌≡◌, ◌≤◌, ◌*◌, ◌^◌, ◌+ℤ◌, drop, unsigned_abs}
use Rattle.cf_model.specs.Common.{int_sum}
use Rattle.cf_books_year.specs.YearBalances.{kept, kept_balance}
use Rattle.cf_books_year.proofs.sums.kept.Given as goal

-- what the accounts so far come to, and what is still to come
abbrev pub invariant-loop-account : goal.invariant-loop-account
invariant-loop-account l = record {
  value : l.sum.cents +ℤ int_sum (kept_balance l.basis l.rest.plan l.year l.fund l.rest.entries) (drop l.account-index l.accounts)
      ≡ kept l.basis l.rest.plan l.year l.fund l.rest.entries l.accounts;
  small : unsigned_abs l.sum.cents ≤ 2 ^ 104 * l.account-index;
}
