use Rattle.std.proofs.Common.{◌≡◌, ◌+◌, ◌-◌, ◌/◌, ◌%◌, ◌++◌, ◌∷◌, [], length, rules, decimal, unsigned_abs}
use Rattle.cf_base.specs.Common.{sign_text}
use Rattle.cf_text.specs.Statement.{blanks}
use Rattle.cf_text.proofs.Amounts.{pieces}
use Rattle.cf_text.proofs.lines.put_amount.Goals as goal

pub returns : goal.returns
returns c =
    let sign = c.sign_of-sign.result.now in
    let units = c.format-units.result.now in
    let size = unsigned_abs c.args.amount in
    let signed : sign ≡ sign_text c.args.amount = search rules in
    let is : units ≡ decimal (size / 100) = search rules in
    let one : c.put_blanks.new.out.items ≡ c.args.out.now.items ++ blanks (20 - (length sign + length units + 3)) = search rules in
    let two : c.extend_from_slice.new.self.items ≡ c.put_blanks.new.out.items ++ sign = search rules in
    let three : c.extend_from_slice-2.new.self.items ≡ c.extend_from_slice.new.self.items ++ units = search rules in
    let four : c.push.new.self.items ≡ c.extend_from_slice-2.new.self.items ++ 46 ∷ [] = search rules in
    let five : c.push-2.new.self.items ≡ c.push.new.self.items ++ (48 + size % 100 / 10) ∷ [] = search rules in
    let six : c.push-3.new.self.items ≡ c.push-2.new.self.items ++ (48 + size % 10) ∷ [] = search rules in
    rw (six, five, four, three, two, one) (pieces c.args.out.now.items sign units c.args.amount signed is)
