-- Bytes after a write, and after a crash in it.
use Rattle.std.proofs.Common.{◌≡◌, inl, inr, ℕ, ◌+◌, ◌-◌, ◌<◌, ◌≤◌, List, [], ◌∷◌, ◌++◌, length, take, drop, replicate, get_or, refl, sym, ◌∙◌, ap, arith, append_assoc, length-append, length-drop, take-append-drop}
use Rattle.cf_base.proofs.Common.{take_at, drop_at, drop-drop, drop_more, append-nil, ext_get_or, get_or-take, get_or-drop, length-take-le}
use Rattle.cf_disk.specs.Images.{padded, written, Torn}

-- the same up to n
pub same_front : (n : ℕ) (old new : List ℕ) → n ≤ length old → n ≤ length new → ((k : ℕ) → k < n → get_or new k 0 ≡ get_or old k 0) → take n new ≡ take n old
same_front n old new in_old in_new same =
    ext_get_or 0 (take n new) (take n old) (length-take-le n new in_new ∙ sym (length-take-le n old in_old))
    (λ k short. let lt : k < n = omega (arith, length-take-le n new in_new) in get_or-take n new k 0 lt ∙ same k lt ∙ sym (get_or-take n old k 0 lt))

-- the same from n on
pub same_back : (n : ℕ) (old new : List ℕ) → length new ≡ length old → ((k : ℕ) → n ≤ k → k < length old → get_or new k 0 ≡ get_or old k 0) → drop n new ≡ drop n old
same_back n old new size same =
    ext_get_or 0 (drop n new) (drop n old) (length-drop n new ∙ ap (λ (k : ℕ). k - n) size ∙ sym (length-drop n old))
    (λ k short.
    let le : n ≤ n + k = omega arith in
    let lt : n + k < length old = omega (arith, length-drop n new, size) in
    get_or-drop n new k 0 ∙ same (n + k) le lt ∙ sym (get_or-drop n old k 0))

module _ (front : List ℕ) (g : ℕ) (behind : List ℕ) where
  abbrev whole : List ℕ
  whole = front ++ g ∷ behind

  pub length-whole : length whole ≡ length front + 1 + length behind
  length-whole = omega (arith, length-append front (g ∷ behind))

  pub front-whole : take (length front) whole ≡ front
  front-whole = take_at front (g ∷ behind) (length front) refl

  split_gate : whole ≡ (front ++ g ∷ []) ++ behind
  split_gate = sym (append_assoc front (g ∷ []) behind)

  length-gate : length (front ++ g ∷ []) ≡ length front + 1
  length-gate = length-append front (g ∷ [])

  pub gate-whole : take (length front + 1) whole ≡ front ++ g ∷ []
  gate-whole = ap (λ (l : List ℕ). take (length front + 1) l) split_gate ∙ take_at (front ++ g ∷ []) behind (length front + 1) length-gate

  pub back-whole : drop (length front + 1) whole ≡ behind
  back-whole = ap (λ (l : List ℕ). drop (length front + 1) l) split_gate ∙ drop_at (front ++ g ∷ []) behind (length front + 1) length-gate

  -- a crash in a write behind the gate leaves what stands before it, and the gate
  pub torn_behind : (n : ℕ) (image : List ℕ) → Torn (length front + 1) n whole image → image ≡ front ++ g ∷ drop (length front + 1) image
  torn_behind n image torn =
      let in_old : length front + 1 ≤ length whole = omega (arith, length-whole) in
      let in_new : length front + 1 ≤ length image = omega (arith, in_old, torn.no_shorter) in
      let fronts = same_front (length front + 1) whole image in_old in_new (λ k short. torn.stays k (omega (arith, in_old, short)) (inl short)) in
      sym (take-append-drop (length front + 1) image) ∙ ap (λ (l : List ℕ). l ++ drop (length front + 1) image) (fronts ∙ gate-whole)
      ∙ append_assoc front (g ∷ []) (drop (length front + 1) image)

  -- a crash in a write of the gate leaves all but the gate
  pub torn_gate : (image : List ℕ) → Torn (length front) 1 whole image → image ≡ front ++ get_or image (length front) 0 ∷ behind
  torn_gate image torn =
      let size : length image ≡ length whole = omega (arith, length-whole, torn.no_shorter, torn.no_longer) in
      let in_old : length front ≤ length whole = omega (arith, length-whole) in
      let in_new : length front ≤ length image = omega (arith, length-whole, size) in
      let lt : length front < length image = omega (arith, length-whole, size) in
      let fronts = same_front (length front) whole image in_old in_new (λ k short. torn.stays k (omega (arith, in_old, short)) (inl short)) in
      let backs = same_back (length front + 1) whole image size (λ k le within. torn.stays k within (inr le)) in
      sym (take-append-drop (length front) image)
      ∙ ap (λ (l : List ℕ). l ++ drop (length front) image) (fronts ∙ front-whole)
      ∙ ap (λ (l : List ℕ). front ++ l) (drop_more image (length front) 0 lt ∙ ap (λ (l : List ℕ). get_or image (length front) 0 ∷ l) (backs ∙ back-whole))

  -- a write within the bytes
  written_within : (at : ℕ) (piece : List ℕ) → at ≤ length whole → written at piece whole ≡ take at whole ++ piece ++ drop (at + length piece) whole
  written_within at piece within =
      let none : at - length whole ≡ 0 = omega arith in
      let same : padded at whole ≡ whole = ap (λ (k : ℕ). whole ++ replicate k 0) none ∙ append-nil whole in
      ap (λ (l : List ℕ). take at l ++ piece ++ drop (at + length piece) whole) same

  -- a write behind the gate
  pub written_behind : (piece : List ℕ) → written (length front + 1) piece whole ≡ front ++ g ∷ (piece ++ drop (length piece) behind)
  written_behind piece =
      let rest : drop (length front + 1 + length piece) whole ≡ drop (length piece) behind =
      ap (λ (l : List ℕ). drop (length front + 1 + length piece) l) split_gate ∙ dropped in
      written_within (length front + 1) piece (omega (arith, length-whole))
      ∙ ap (λ (l : List ℕ). l ++ piece ++ drop (length front + 1 + length piece) whole) gate-whole
      ∙ ap (λ (l : List ℕ). (front ++ g ∷ []) ++ piece ++ l) rest
      ∙ append_assoc (front ++ g ∷ []) piece (drop (length piece) behind)
      ∙ append_assoc front (g ∷ []) (piece ++ drop (length piece) behind)
    where
      dropped : drop (length front + 1 + length piece) ((front ++ g ∷ []) ++ behind) ≡ drop (length piece) behind
      dropped = sym (drop-drop (length piece) (length front + 1) ((front ++ g ∷ []) ++ behind)) ∙ ap (λ (l : List ℕ). drop (length piece) l) (drop_at (front ++ g ∷ []) behind (length front + 1) length-gate)

  -- a write of the gate
  pub written_gate : (x : ℕ) → written (length front) (x ∷ []) whole ≡ front ++ x ∷ behind
  written_gate x =
      written_within (length front) (x ∷ []) (omega (arith, length-whole))
      ∙ ap (λ (l : List ℕ). l ++ (x ∷ []) ++ drop (length front + 1) whole) front-whole
      ∙ ap (λ (l : List ℕ). front ++ (x ∷ []) ++ l) back-whole
      ∙ append_assoc front (x ∷ []) behind
