-- The words of bases, and the names of funds and of accounts (own rule: the words of the
-- statements).
use Rattle.std.specs.Prelude.{ℕ, ◌-◌, ◌==◌, ◌&&◌, nat_lt, if◌then◌else◌, List, [], ◌++◌, Option, Some, None, codes}
use Rattle.cf_model.specs.Common.{Basis, Department, Function, RevenueSource}
use Rattle.cf_calls.specs.declared.read.Basis.TheVariants as basis
use Rattle.cf_chart.specs.declared.rows.Fund.{Fund}
use Rattle.cf_chart.specs.Common.{Plan, function_at, source_at}

abbrev pub basis_word : Basis → List ℕ
basis_word basis.Fund = codes "fund"
basis_word basis.Gov = codes "gov"

abbrev pub fund_name : Option Fund → List ℕ
fund_name None = []
fund_name (Some f) = f.name

abbrev pub department_name : Option Department → List ℕ
department_name None = []
department_name (Some d) = d.name

abbrev pub source_name : Option RevenueSource → List ℕ
source_name None = []
source_name (Some s) = s.name

abbrev pub function_name : Option Function → List ℕ
function_name None = []
function_name (Some f) = f.name

abbrev pub asset_name : ℕ → List ℕ
asset_name n =
    if n == 100000 then codes "Cash"
    else (if n == 110000 then codes "Receivables"
    else (if n == 120000 then codes "Due from other funds"
    else (if n == 150000 then codes "Capital assets"
    else (if n == 151000 then codes "Right-to-use assets"
    else (if n == 159000 then codes "Accumulated depreciation"
    else (if n == 159100 then codes "Accumulated amortization"
    else []))))))

abbrev pub liability_name : ℕ → List ℕ
liability_name n =
    if n == 200000 then codes "Vouchers payable"
    else (if n == 210000 then codes "Debt due"
    else (if n == 220000 then codes "Due to other funds"
    else (if n == 250000 then codes "Bonds payable"
    else (if n == 251000 then codes "Leases payable"
    else (if n == 260000 then codes "Accrued interest"
    else (if n == 270000 then codes "Compensated absences"
    else (if n == 290000 then codes "Unavailable revenue"
    else [])))))))

abbrev pub other_name : ℕ → List ℕ
other_name n =
    if n == 460000 then codes "Gain on sales"
    else (if n == 510000 then codes "Capital outlay"
    else (if n == 520000 then codes "Debt principal"
    else (if n == 530000 then codes "Debt interest"
    else (if n == 600001 then codes "Transfers in"
    else (if n == 600002 then codes "Debt proceeds"
    else (if n == 600003 then codes "Sale of capital assets"
    else (if n == 600004 then codes "Leases issued"
    else (if n == 610001 then codes "Transfers out"
    else []))))))))

-- revenues are of a source; gifts, and current expenditures or expenses, of a function
abbrev pub account_name : Plan → ℕ → List ℕ
account_name plan n =
    if nat_lt n 200000 then asset_name n
    else (if nat_lt n 300000 then liability_name n
    else (if nat_lt 400000 n && nat_lt n 410000 then source_name (source_at plan (n - 400000))
    else (if nat_lt 450000 n && nat_lt n 451000 then function_name (function_at plan (n - 450000))
    else (if nat_lt 500000 n && nat_lt n 501000 then function_name (function_at plan (n - 500000))
    else other_name n))))

-- what an account is of a function is said where it isn't its expenditure
abbrev pub kind_text : ℕ → List ℕ
kind_text n = if nat_lt 450000 n && nat_lt n 451000 then codes "Donated capital assets, " else []

abbrev pub account_text : Plan → ℕ → List ℕ
account_text plan n = kind_text n ++ account_name plan n
