-- A stream is read in one way.
use Rattle.std.proofs.Common.{◌≡◌, ℕ, suc, ◌<◌, ◌^◌, List, [], ◌∷◌, ◌++◌, length, take, drop, refl, sym, ◌∙◌, ap, subst, append_assoc, All, w32, w64}
use Rattle.cf_base.proofs.Common.{to_be_bytes, append-nil, All-head, All-tail}
use Rattle.cf_calls.specs.declared.entry.Entry.{Entry}
use Rattle.cf_codec.specs.Entries.{payload}
use Rattle.cf_codec.proofs.EntriesExact.{no_prefix}
use Rattle.cf_journal.specs.Records.{record_of, records_of}
use Rattle.cf_journal.proofs.RecordLaws.{records_front, records_none}
use Rattle.cf_journal_stream.specs.Streams.{HasFrame, head_of}
use Rattle.cf_journal_stream.proofs.Lists.{split_same, word_same, long_same}

-- one record
pub record_same : (a b : Entry) (x y : List ℕ) → HasFrame a → HasFrame b → record_of a ++ x ≡ record_of b ++ y → (a ≡ b) × (x ≡ y)
record_same a b x y p q is =
    let sizes = word_same (length (payload a)) (length (payload b)) (payload a ++ x) (payload b ++ y) p.has.short q.has.short
    (sym (append_assoc (to_be_bytes w32 (length (payload a))) (payload a) x) ∙ is ∙ append_assoc (to_be_bytes w32 (length (payload b))) (payload b) y) in
    let parts = split_same (payload a) x (payload b) y sizes.0 sizes.1 in
    ((no_prefix a b [] p.has.has q.has.has (sym parts.0 ∙ sym (append-nil (payload a)))).0, parts.1)

-- where one entry more is taken of records, it is the next
record Next (e : Entry) (fs : List Entry) (x rest : List ℕ) : Type 0 where
  first : Entry
  later : List Entry
  are : fs ≡ first ∷ later
  same : e ≡ first
  back : x ≡ records_of later ++ 0 ∷ rest

next_one : (e : Entry) (fs : List Entry) (x rest : List ℕ) → HasFrame e → All HasFrame fs → 1 ∷ (record_of e ++ x) ≡ records_of fs ++ 0 ∷ rest → Next e fs x rest
next_one e [] x rest p q is = let none : 1 ∷ (record_of e ++ x) ≡ 0 ∷ rest = is ∙ records_none (0 ∷ rest) in absurd (cc none)
next_one e (f ∷ fs) x rest p q is =
    let open_ : 1 ∷ (record_of e ++ x) ≡ 1 ∷ (record_of f ++ (records_of fs ++ 0 ∷ rest)) = is ∙ records_front f fs (0 ∷ rest) in
    let behind : record_of e ++ x ≡ record_of f ++ (records_of fs ++ 0 ∷ rest) = cc open_ in
    let both = record_same e f x (records_of fs ++ 0 ∷ rest) p (All-head HasFrame f fs q) behind in
    record { first = f; later = fs; are = refl; same = both.0; back = both.1 }

-- records that were taken of a stream are its first ones
pub records_part : (es fs : List Entry) (x rest : List ℕ) → All HasFrame es → All HasFrame fs → records_of es ++ x ≡ records_of fs ++ 0 ∷ rest
    → (es ≡ take (length es) fs) × (x ≡ records_of (drop (length es) fs) ++ 0 ∷ rest)
records_part [] fs x rest p q is = (refl, sym (records_none x) ∙ is)
records_part (e ∷ es) fs x rest p q is =
    let next = next_one e fs (records_of es ++ x) rest (All-head HasFrame e es p) q (sym (records_front e es x) ∙ is) in
    let behind : All HasFrame next.later = All-tail HasFrame next.first next.later (subst (All HasFrame) next.are q) in
    let more = records_part es next.later x rest (All-tail HasFrame e es p) behind next.back in (
      ap (λ (l : List Entry). e ∷ l) more.0 ∙ ap (λ (f : Entry). f ∷ take (length es) next.later) next.same ∙ ap (take (suc (length es))) (sym next.are),
      more.1 ∙ ap (λ (l : List Entry). records_of (drop (suc (length es)) l) ++ 0 ∷ rest) (sym next.are),
    )

-- the same of the head
pub head_same : (a b : ℕ) (chart x y : List ℕ) → a < 2 ^ 64 → b < 2 ^ 64 → head_of a chart ++ x ≡ head_of b chart ++ y → (a ≡ b) × (x ≡ y)
head_same a b chart x y p q is =
    let behind : List ℕ = to_be_bytes w32 (length chart) ++ chart in
    let parts = long_same a b (behind ++ x) (behind ++ y) p q (sym (append_assoc (to_be_bytes w64 a) behind x) ∙ is ∙ append_assoc (to_be_bytes w64 b) behind y) in
    (parts.0, (split_same behind x behind y refl parts.1).1)
