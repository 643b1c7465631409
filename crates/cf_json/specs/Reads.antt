-- The fields of each look, in order.
use Rattle.std.specs.Prelude.{ℕ, List, [], ◌∷◌, Result, Ok, codes}
use Rattle.serde_json.specs.Data.{Data}
use Rattle.cf_calls.specs.declared.read.Read.{Read}
use Rattle.cf_calls.specs.declared.read.Read.TheVariants.{Line, Requisition, Order, Voucher, Bill, Asset, Bond, Leave, Account, Reconcile, Report}
use Rattle.cf_json_members.specs.declared.fault.FormFault.{FormFault}
use Rattle.cf_json.specs.declared.words.LookWord.{LookWord}
use Rattle.cf_json.specs.declared.words.LookWord.TheVariants as word
use Rattle.cf_json_members.specs.Faults.{◌>>=◌}
use Rattle.cf_json_members.specs.Fields.{field}
use Rattle.cf_json_members.specs.Kinds.{as_n16, as_n32, as_year, as_word}
use Rattle.cf_json.specs.Words.{basis_words, as_statement}

abbrev pub line_of : Data → Result Read FormFault
line_of d = do
  line ← field as_n16 (codes "line") d
  year ← field as_year (codes "year") d
  Ok (Line line year)

abbrev pub leave_of : Data → Result Read FormFault
leave_of d = do
  fund ← field as_n16 (codes "fund") d
  dept ← field as_n16 (codes "dept") d
  Ok (Leave fund dept)

abbrev pub account_of : Data → Result Read FormFault
account_of d = do
  basis ← field (as_word basis_words) (codes "basis") d
  year ← field as_year (codes "year") d
  fund ← field as_n16 (codes "fund") d
  account ← field as_n32 (codes "account") d
  Ok (Account basis year fund account)

abbrev pub report_of : Data → Result Read FormFault
report_of d = do
  year ← field as_year (codes "year") d
  kind ← field as_statement (codes "kind") d
  Ok (Report year kind)

-- what a look reads
abbrev pub read_of : LookWord → Data → Result Read FormFault
read_of word.Line d = line_of d
read_of word.Requisition d = field as_n32 (codes "requisition") d >>= (λ n. Ok (Requisition n))
read_of word.Order d = field as_n32 (codes "order") d >>= (λ n. Ok (Order n))
read_of word.Voucher d = field as_n32 (codes "voucher") d >>= (λ n. Ok (Voucher n))
read_of word.Bill d = field as_n32 (codes "bill") d >>= (λ n. Ok (Bill n))
read_of word.Asset d = field as_n32 (codes "asset") d >>= (λ n. Ok (Asset n))
read_of word.Bond d = field as_n32 (codes "bond") d >>= (λ n. Ok (Bond n))
read_of word.Leave d = leave_of d
read_of word.Account d = account_of d
read_of word.Reconcile d = field as_year (codes "year") d >>= (λ y. Ok (Reconcile y))
read_of word.Report d = report_of d

-- the fields of a look, beside those that every look has
abbrev pub look_names : LookWord → List (List ℕ)
look_names word.Line = codes "line" ∷ codes "year" ∷ []
look_names word.Requisition = codes "requisition" ∷ []
look_names word.Order = codes "order" ∷ []
look_names word.Voucher = codes "voucher" ∷ []
look_names word.Bill = codes "bill" ∷ []
look_names word.Asset = codes "asset" ∷ []
look_names word.Bond = codes "bond" ∷ []
look_names word.Leave = codes "fund" ∷ codes "dept" ∷ []
look_names word.Account = codes "basis" ∷ codes "year" ∷ codes "fund" ∷ codes "account" ∷ []
look_names word.Reconcile = codes "year" ∷ []
look_names word.Report = codes "year" ∷ codes "kind" ∷ []
