-- What adoptions estimate that are dated through a day.
use Rattle.std.proofs.Common.{◌≡◌, ℕ, ◌+◌, ◌≤◌, ◌&&◌, Bool, true, false, cond, is_some, List, [], ◌∷◌, Option, Some, None, refl, sym, ap, ◌∙◌, arith}
use Rattle.cf_base.proofs.Common.{sum_by-cons}
use Rattle.cf_model.specs.Common.{Day, Act, Adopt, Adoption, Entry, estimate, estimated_by, Registers, no_registers, registers_step}
use Rattle.cf_journal_book.specs.Watching.{Posted, posted_after, posted_over}
use Rattle.cf_calls.specs.Common.{adoption_of}
use Rattle.cf_chart.specs.Common.{Plan}
use Rattle.cf_books_days.specs.Adoptions.{adoptions_through, estimate_in as in_adoption, is_adoption_through}
use Rattle.cf_books_days.specs.Through.{dated_through, estimate_in, is_through, seen_through}

abbrev pub estimate_or_none : ℕ → ℕ → Option Adoption → ℕ
estimate_or_none source year None = 0
estimate_or_none source year (Some a) = in_adoption source year a

pub estimated_is : (source year : ℕ) (act : Act) → estimated_by source year act ≡ estimate_or_none source year (adoption_of act)
estimated_is source year (Adopt a) = refl
estimated_is source year _ = refl

not_adopted : (source year : ℕ) (o : Option Adoption) → is_some o ≡ false → estimate_or_none source year o ≡ 0
not_adopted source year None e = refl
not_adopted source year (Some a) e = cc

-- the entries that are dated through a day estimate what the adoptions among them do
estimates_after : (plan : Plan) (day : Day) (s : Registers) (n source year : ℕ) (h : List Entry) →
    estimate source year (adoptions_through day h) ≡ estimate_in source year (dated_through day (posted_after plan s n h))
estimates_after plan day s n source year [] = refl
estimates_after plan day s n source year (e ∷ h) =
    by_tests (is_some (adoption_of e.change.act)) refl (is_through day e.change.on) (estimates_after plan day (registers_step plan s e) (n + 1) source year h)
  where
    later : List Posted
    later = dated_through day (posted_after plan (registers_step plan s e) (n + 1) h)

    zero_plus : (m k : ℕ) → k ≡ 0 → m ≡ k + m
    zero_plus m k e = omega (arith, e)

    by_tests : (a : Bool) → is_some (adoption_of e.change.act) ≡ a → (b : Bool) → estimate source year (adoptions_through day h) ≡ estimate_in source year later →
        estimate source year (cond (a && b) (e ∷ adoptions_through day h) (adoptions_through day h)) ≡ estimate_in source year (cond b (posted_over plan s n e ∷ later) later)
    by_tests true is true more =
        sum_by-cons (λ (x : Entry). estimated_by source year x.change.act) e (adoptions_through day h)
        ∙ ap (λ m. estimated_by source year e.change.act + m) more
        ∙ sym (sum_by-cons (λ (x : Posted). estimated_by source year x.entry.change.act) (posted_over plan s n e) later)
    by_tests true is false more = more
    by_tests false is true more =
        more
        ∙ zero_plus (estimate_in source year later) (estimated_by source year e.change.act) (estimated_is source year e.change.act ∙ not_adopted source year (adoption_of e.change.act) is)
        ∙ sym (sum_by-cons (λ (x : Posted). estimated_by source year x.entry.change.act) (posted_over plan s n e) later)
    by_tests false is false more = more

pub estimates_are : (plan : Plan) (day : Day) (source year : ℕ) (h : List Entry) → estimate source year (adoptions_through day h) ≡ estimate_in source year (seen_through plan day h)
estimates_are plan day source year h = estimates_after plan day no_registers 1 source year h

-- and no more than all of them
pub estimate_part : (day : Day) (source year : ℕ) (h : List Entry) → estimate source year (adoptions_through day h) ≤ estimate source year h
estimate_part day source year [] = omega arith
estimate_part day source year (e ∷ h) =
    rw (sum_by-cons (λ (x : Entry). estimated_by source year x.change.act) e h) (by_test (is_adoption_through day e) (estimate_part day source year h))
  where
    by_test : (b : Bool) → estimate source year (adoptions_through day h) ≤ estimate source year h →
        estimate source year (cond b (e ∷ adoptions_through day h) (adoptions_through day h)) ≤ estimated_by source year e.change.act + estimate source year h
    by_test true more = rw (sum_by-cons (λ (x : Entry). estimated_by source year x.change.act) e (adoptions_through day h)) (omega (arith, more))
    by_test false more = omega (arith, more)
