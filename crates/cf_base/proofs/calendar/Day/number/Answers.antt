use Rattle.std.proofs.Common.{◌≡◌, ℤ, arith, rules, ap, ◌∙◌, unsigned_abs, to_z, of_z, w32}
use Rattle.jiff_core.proofs.SignedLemmas.{signed_arith}
use Rattle.cf_base.specs.Common.{day_number, day_of_number}
use Rattle.cf_base.proofs.DayNumbers.{number_of}
use Rattle.cf_base.proofs.calendar.Day.number.Goals as goal

pub returns-in-Ok-clause-range : goal.returns-in-Ok-clause-range
returns-in-Ok-clause-range c =
    let z : ℤ = to_z w32 (of_z w32 c.to_unix_epoch_day.result) in
    let e : z ≡ day_number c.args.self = search rules in
    let n = number_of c.args.self c.requires in
    (omega (arith, signed_arith, e, n.1, n.2), omega (arith, signed_arith, e, n.1, n.2))

pub returns-in-Ok-clause-back : goal.returns-in-Ok-clause-back
returns-in-Ok-clause-back c =
    let z : ℤ = to_z w32 (of_z w32 c.to_unix_epoch_day.result) in
    let e : z ≡ day_number c.args.self = search rules in
    let n = number_of c.args.self c.requires in
    ap (λ (x : ℤ). day_of_number (unsigned_abs x)) (e ∙ n.2) ∙ n.3
