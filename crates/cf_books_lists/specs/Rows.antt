-- Rows that one writer wrote.
use Rattle.std.specs.Prelude.{◌≡◌, ℕ, Bool, false, List, [], ◌++◌, Vec}
use Rattle.std.specs.Global.{Global}
use Rattle.csv.specs.Writing.{fields_written, has_written, writer_pending, writer_setup, writer_under}
use Rattle.csv.specs.declared.Writer.{Writer}
use Rattle.cf_books_lists.specs.Records.{setup}

-- what was written, as records or with tabs
pub record Written : Type 0 where
  pub csv : Bool
  pub text : List ℕ

abbrev pub none_written : Bool → Written
none_written csv = record { csv = csv; text = [] }

-- the same with a text more
abbrev pub added : Written → List ℕ → Written
added w more = record { csv = w.csv; text = w.text ++ more }

-- what a writer wrote: what stands in the text, and then what it holds back
abbrev pub text_in : Writer (Vec ℕ Global) → List ℕ
text_in w = (writer_under w).items ++ writer_pending w

-- the writer stands before a row
pub record StandsBefore (csv : Bool) (w : Writer (Vec ℕ Global)) : Type 0 where
  pub setup_is : writer_setup w ≡ setup csv
  pub fields : fields_written w ≡ 0
  pub clean : has_written w ≡ false
