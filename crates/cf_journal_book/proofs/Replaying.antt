-- The loop over a journal's entries.
use Rattle.std.proofs.Common.{◌≡◌, ℕ, suc, ◌+◌, ◌*◌, ◌^◌, ◌<◌, ◌≤◌, List, [], ◌∷◌, ◌++◌, length, length-append, All, Option, Some, None, Err, refl, sym, ap, subst, ◌∙◌, arith, append_assoc}
use Rattle.cf_base.specs.Common.{most_entries}
use Rattle.cf_model.specs.Common.{Entry}
use Rattle.cf_chart.specs.Common.{Plan}
use Rattle.cf_journal.specs.Records.{HasRecord, record_len}
use Rattle.cf_journal_book.specs.Openings.{Readmits, Replays}
use Rattle.cf_journal_book.specs.Recovery.{entry_refusal, first_refused}
use Rattle.cf_journal_book.specs.declared.refused.BookRefused.{BookRefused}
use Rattle.cf_journal_book.specs.declared.refused.BookRefused.TheVariants.{Disk, NotFounded, Damaged, NoMemory}
use Rattle.cf_journal_book.proofs.Recovering.{next_refused, here_refused, none_refused}

pub items_on : (all yielded rest later : List Entry) (e : Entry) → all ≡ yielded ++ rest → rest ≡ e ∷ later → all ≡ (yielded ++ e ∷ []) ++ later
items_on all yielded rest later e is next = is ∙ ap (λ (x : List Entry). yielded ++ x) next ∙ sym (append_assoc yielded (e ∷ []) later)

pub records_on : (rest later : List Entry) (e : Entry) → All HasRecord rest → rest ≡ e ∷ later → All HasRecord later
records_on rest later e has next = let all : All HasRecord (e ∷ later) = subst (All HasRecord) next has in λ k d lt. all (suc k) d (omega (arith, lt))

pub record_at : (rest later : List Entry) (e : Entry) → All HasRecord rest → rest ≡ e ∷ later → HasRecord e
record_at rest later e has next = let all : All HasRecord (e ∷ later) = subst (All HasRecord) next has in all 0 e (omega arith)

pub few_on : (office yielded : List Entry) (e : Entry) → office ≡ yielded → length office < most_entries → length (yielded ++ e ∷ []) ≤ most_entries
few_on office yielded e same few =
    let l : length (yielded ++ e ∷ []) ≡ length yielded + 1 = length-append yielded (e ∷ []) in
    let s : length office ≡ length yielded = ap length same in
    omega (arith, l, s, few)

pub gate_on : (yielded : List Entry) (e : Entry) (gate len : ℕ) → HasRecord e → len ≡ record_len e → gate ≤ 6 + 2 ^ 32 + length yielded * (2 ^ 32 + 5) → gate + len ≤ 6 + 2 ^ 32 + length (yielded ++ e ∷ []) * (2 ^ 32 + 5)
gate_on yielded e gate len has is so_far =
    let l : length (yielded ++ e ∷ []) ≡ length yielded + 1 = length-append yielded (e ∷ []) in
    omega (arith, l, is, has.short, so_far)

-- the office is that of the entries so far
taken_at : (plan chart : Plan) (office yielded : List Entry) (e : Entry) (r : Option ℕ) → plan ≡ chart → office ≡ yielded → entry_refusal plan office e ≡ r → entry_refusal chart yielded e ≡ r
taken_at plan chart office yielded e r p o is =
    subst (λ (q : Plan). entry_refusal q yielded e ≡ r) p (subst (λ (x : List Entry). entry_refusal plan x e ≡ r) o is)

pub refused_on : (plan chart : Plan) (office yielded rest later : List Entry) (e : Entry) (gate len : ℕ) (total : Option (ℕ × ℕ)) → plan ≡ chart → office ≡ yielded → rest ≡ e ∷ later → len ≡ record_len e
    → entry_refusal plan office e ≡ None → total ≡ first_refused chart yielded gate rest → total ≡ first_refused chart (yielded ++ e ∷ []) (gate + len) later
refused_on plan chart office yielded rest later e gate len total p o next is taken so_far =
    so_far ∙ ap (first_refused chart yielded gate) next ∙ next_refused chart yielded gate e later (taken_at plan chart office yielded e None p o taken)
    ∙ ap (λ (n : ℕ). first_refused chart (yielded ++ e ∷ []) (gate + n) later) (sym is)

-- an entry is refused
pub refused_here : (A B : Type 0) (plan chart : Plan) (office yielded rest later : List Entry) (e : Entry) (gate : ℕ) (total : Option (ℕ × ℕ)) (why : BookRefused) → plan ≡ chart → office ≡ yielded → rest ≡ e ∷ later
    → total ≡ first_refused chart yielded gate rest → Readmits {A = A} (Err why) gate (entry_refusal plan office e) → Replays {A = B} (Err why) total
refused_here A B plan chart office yielded rest later e gate total Disk p o next so_far is = absurd is
refused_here A B plan chart office yielded rest later e gate total NoMemory p o next so_far is = tt
refused_here A B plan chart office yielded rest later e gate total (NotFounded len byte) p o next so_far is = absurd is
refused_here A B plan chart office yielded rest later e gate total (Damaged offset None) p o next so_far is = absurd is
refused_here A B plan chart office yielded rest later e gate total (Damaged offset (Some n)) p o next so_far is =
    so_far ∙ ap (first_refused chart yielded gate) next ∙ here_refused chart yielded gate e later n (taken_at plan chart office yielded e (Some n) p o is.1) ∙ ap (λ (k : ℕ). Some (k, n)) (sym is.0)

pub refused_none : (chart : Plan) (yielded rest : List Entry) (gate : ℕ) (total : Option (ℕ × ℕ)) → rest ≡ [] → total ≡ first_refused chart yielded gate rest → total ≡ None
refused_none chart yielded rest gate total none so_far = so_far ∙ ap (first_refused chart yielded gate) none ∙ none_refused chart yielded gate

pub nothing_left : (xs : List Entry) → length xs ≡ 0 → xs ≡ []
nothing_left [] e = refl
nothing_left (x ∷ xs) e = absurd (omega (arith, e))
