use Rattle.std.proofs.Common.{◌≡◌, ◌≤◌, ◌+◌, ℕ, w32, ℤ, pos, ◌+ℤ◌, FitsSigned, to_z, of_z, to_z-of_z, unsigned_abs, ap, sym, subst, ◌∙◌, true, arith}
use Rattle.cf_base.proofs.Common.{ints, number_of, reached_later}
use Rattle.cf_model.specs.Common.{Day}
use Rattle.cf_base.specs.Common.{is_day, window_end}
use Rattle.cf_model.proofs.Common.{IsNamed}
use Rattle.cf_office_rules.proofs.windows.window_month.Goals as goal

record Numbered (z : ℤ) : Type 0 where
  n : ℕ
  is : z ≡ pos n
  most : n ≤ 84370

numbered : (z : ℤ) (last : Day) (days : ℕ) → is_day last ≡ true → days ≤ 365 → z ≡ window_end last days → Numbered z
numbered z last days day most is =
    let d = number_of last day in
    record { n = d.0 + days; is = is ∙ ap (λ (x : ℤ). x +ℤ pos days) d.2 ∙ omega (arith, ints); most = omega (arith, d.1, most) }

-- as the machine has it
as_word : (z : ℤ) (n : ℕ) → z ≡ pos n → n ≤ 84370 → to_z w32 (of_z w32 z) ≡ pos n
as_word z n is most = let fits : FitsSigned w32 (pos n) = omega (arith, ints, most) in ap (λ (x : ℤ). to_z w32 (of_z w32 x)) is ∙ to_z-of_z fits

pub month_at-requires : goal.month_at-requires
month_at-requires c =
    let d = numbered c.window_end.result c.year_end-last_day.result c.longest_window.result c.year_end-last_day.ensures.day c.longest_window.ensures.most c.window_end.ensures in
    rw (as_word c.window_end.result d.n d.is d.most) (omega (arith, ints), omega (arith, ints, d.most))

pub returns-clause-named : goal.returns-clause-named
returns-clause-named c =
    let d = numbered c.window_end.result c.year_end-last_day.result c.longest_window.result c.year_end-last_day.ensures.day c.longest_window.ensures.most c.window_end.ensures in
    let z : ℤ = to_z w32 (of_z w32 c.window_end.result) in
    let within = (reached_later (unsigned_abs z) (omega (arith, ap unsigned_abs (as_word c.window_end.result d.n d.is d.most), d.most))).0 in
    subst IsNamed (sym c.month_at.ensures) (record { first = within.first_month; last = within.last_month })
