-- The places of the assets in service: all others are charged nothing.
use Rattle.std.proofs.Common.{◌≡◌, inl, inr, ℕ, zero, suc, ◌+◌, ◌-◌, ◌*◌, ◌/◌, ◌<◌, ◌≤◌, min, Bool, true, false, if◌then◌else◌, nat_lt, List, [], ◌∷◌, ◌++◌, length, set, get_or, sum_by, slice_get, refl, sym, ap, ◌∙◌, arith, filter}
use Rattle.cf_base.proofs.Common.{nat_tests, sum_by-cons}
use Rattle.cf_assets.specs.declared.rows.AssetRow.{AssetRow}
use Rattle.cf_assets.specs.declared.rows.StageNow.{StageNow}
use Rattle.cf_assets.specs.declared.rows.StageNow.TheVariants.{Held, Void, Disposed}
use Rattle.cf_assets.specs.Rows.{view_asset, IsStage}
use Rattle.cf_assets.specs.Serving.{serves, serves_in, serves_if, serves_at, enlisted, ServeFrom}
use Rattle.cf_model.specs.Common.{depreciated, charge}

not_less : (a b : ℕ) → nat_lt a b ≡ false → b ≤ a
not_less a b e = grind (arith, nat_tests)

-- a month charges nothing for an asset that isn't in service
pub not_charged : (closed : ℕ) (r : AssetRow) → IsStage closed r.stage → serves closed r ≡ false → charge closed (view_asset r) ≡ 0
not_charged closed r ok e = by_stage r.stage ok e
  where
    by_stage : (s : StageNow) → IsStage closed s → serves_in s (closed - r.service) r.life ≡ false → charge closed (view_asset (record r { stage = s })) ≡ 0
    by_stage Held ok e =
        let over : r.life ≤ closed - r.service = not_less (closed - r.service) r.life e in
        let same : min ((closed + 1) - r.service) r.life ≡ min (closed - r.service) r.life = omega (arith, over) in
        omega (arith, ap (λ n. r.cost * n / r.life) same)
    by_stage Void ok e = omega arith
    by_stage (Disposed year months) ok e =
        let same : min (closed + 1) months - r.service ≡ min closed months - r.service = omega (arith, ok) in
        omega (arith, ap (depreciated r.cost r.life) same)

-- what isn't in service never is again
still : (months : ℕ) (r : AssetRow) → serves months r ≡ false → serves (months + 1) r ≡ false
still months r e = by_stage r.stage e
  where
    at_least : (a b : ℕ) → b ≤ a → nat_lt a b ≡ false
    at_least a b l = grind (arith, nat_tests)

    by_stage : (s : StageNow) → serves_in s (months - r.service) r.life ≡ false → serves_in s ((months + 1) - r.service) r.life ≡ false
    by_stage Held e =
        let over : r.life ≤ months - r.service = not_less (months - r.service) r.life e in
        at_least ((months + 1) - r.service) r.life (omega (arith, over))
    by_stage Void e = refl
    by_stage (Disposed year closed) e = refl

-- ---- where they stand

pub within : (months n : ℕ) (rows : List AssetRow) (serving : List ℕ) → ServeFrom months n rows serving → (j : ℕ) → j < length serving → get_or serving j 0 < n + length rows
within months n [] [] h j l = absurd (omega arith)
within months n [] (at ∷ serving) h j l = absurd h
within months n (r ∷ rows) [] h j l = absurd (omega arith)
within months n (r ∷ rows) (at ∷ serving) (inl h) zero l = omega (arith, h.0)
within months n (r ∷ rows) (at ∷ serving) (inl h) (suc j) l = omega (arith, within months (n + 1) rows serving h.1 j (omega arith))
within months n (r ∷ rows) (at ∷ serving) (inr h) j l = omega (arith, within months (n + 1) rows (at ∷ serving) h.1 j l)

pub few : (months n : ℕ) (rows : List AssetRow) (serving : List ℕ) → ServeFrom months n rows serving → length serving ≤ length rows
few months n [] [] h = omega arith
few months n [] (at ∷ serving) h = absurd h
few months n (r ∷ rows) [] h = omega arith
few months n (r ∷ rows) (at ∷ serving) (inl h) = omega (arith, few months (n + 1) rows serving h.1)
few months n (r ∷ rows) (at ∷ serving) (inr h) = omega (arith, few months (n + 1) rows (at ∷ serving) h.1)

-- ---- one asset more

enlist_push : (months n k : ℕ) (rows : List AssetRow) (serving : List ℕ) (r : AssetRow) → k ≡ n + length rows → ServeFrom months n rows serving → ServeFrom months n (rows ++ r ∷ []) (serving ++ k ∷ [])
enlist_push months n k [] [] r e h = inl (omega (arith, e), tt)
enlist_push months n k [] (at ∷ serving) r e h = absurd h
enlist_push months n k (x ∷ rows) [] r e h = inr (h.0, enlist_push months (n + 1) k rows [] r (omega (arith, e)) h.1)
enlist_push months n k (x ∷ rows) (at ∷ serving) r e (inl h) = inl (h.0, enlist_push months (n + 1) k rows serving r (omega (arith, e)) h.1)
enlist_push months n k (x ∷ rows) (at ∷ serving) r e (inr h) = inr (h.0, enlist_push months (n + 1) k rows (at ∷ serving) r (omega (arith, e)) h.1)

skip_push : (months n : ℕ) (rows : List AssetRow) (serving : List ℕ) (r : AssetRow) → serves months r ≡ false → ServeFrom months n rows serving → ServeFrom months n (rows ++ r ∷ []) serving
skip_push months n [] [] r e h = (e, tt)
skip_push months n [] (at ∷ serving) r e h = absurd h
skip_push months n (x ∷ rows) [] r e h = (h.0, skip_push months (n + 1) rows [] r e h.1)
skip_push months n (x ∷ rows) (at ∷ serving) r e (inl h) = inl (h.0, skip_push months (n + 1) rows serving r e h.1)
skip_push months n (x ∷ rows) (at ∷ serving) r e (inr h) = inr (h.0, skip_push months (n + 1) rows (at ∷ serving) r e h.1)

-- land is never in service
land_rests : (months : ℕ) (r : AssetRow) → nat_lt 0 r.life ≡ false → serves months r ≡ false
land_rests months r e = by_stage r.stage
  where
    none : (a b : ℕ) → b ≤ 0 → nat_lt a b ≡ false
    none a b l = grind (arith, nat_tests)

    by_stage : (s : StageNow) → serves_in s (months - r.service) r.life ≡ false
    by_stage Held = none (months - r.service) r.life (not_less 0 r.life e)
    by_stage Void = refl
    by_stage (Disposed year closed) = refl

pub serving_push : (months k : ℕ) (rows : List AssetRow) (serving : List ℕ) (r : AssetRow) → k ≡ length rows → ServeFrom months 0 rows serving →
    ServeFrom months 0 (rows ++ r ∷ []) (enlisted k r serving)
serving_push months k rows serving r at h = by_test (nat_lt 0 r.life) refl
  where
    by_test : (b : Bool) → nat_lt 0 r.life ≡ b → ServeFrom months 0 (rows ++ r ∷ []) (if b then serving ++ k ∷ [] else serving)
    by_test true e = enlist_push months 0 k rows serving r (omega (arith, at)) h
    by_test false e = skip_push months 0 rows serving r (land_rests months r e) h

-- ---- an asset goes out of service

pub serving_set : (months n : ℕ) (rows : List AssetRow) (k : ℕ) (serving : List ℕ) (r : AssetRow) → serves months r ≡ false → ServeFrom months n rows serving → ServeFrom months n (set rows k r) serving
serving_set months n [] k serving r e h = h
serving_set months n (x ∷ rows) zero [] r e h = (e, h.1)
serving_set months n (x ∷ rows) zero (at ∷ serving) r e (inl h) = inl h
serving_set months n (x ∷ rows) zero (at ∷ serving) r e (inr h) = inr (e, h.1)
serving_set months n (x ∷ rows) (suc k) [] r e h = (h.0, serving_set months (n + 1) rows k [] r e h.1)
serving_set months n (x ∷ rows) (suc k) (at ∷ serving) r e (inl h) = inl (h.0, serving_set months (n + 1) rows k serving r e h.1)
serving_set months n (x ∷ rows) (suc k) (at ∷ serving) r e (inr h) = inr (h.0, serving_set months (n + 1) rows k (at ∷ serving) r e h.1)

skip : (months n : ℕ) (r : AssetRow) (rows : List AssetRow) (serving : List ℕ) → serves months r ≡ false → ServeFrom months (n + 1) rows serving → ServeFrom months n (r ∷ rows) serving
skip months n r rows [] e h = (e, h)
skip months n r rows (at ∷ serving) e h = inr (e, h)

-- of all assets, those from n on are these
abbrev Stand : ℕ → List AssetRow → List AssetRow → Type 0
Stand n rows all = (i : ℕ) → i < length rows → slice_get all (n + i) ≡ slice_get rows i

stand_next : (n : ℕ) (r : AssetRow) (rows all : List AssetRow) → Stand n (r ∷ rows) all → Stand (n + 1) rows all
stand_next n r rows all same i l =
    let there : (n + 1) + i ≡ n + suc i = omega arith in
    ap (slice_get all) there ∙ same (suc i) (omega arith)

retire_from : (months n : ℕ) (rows all : List AssetRow) (serving : List ℕ) → Stand n rows all → ServeFrom months n rows serving → ServeFrom (months + 1) n rows (filter (serves_at (months + 1) all) serving)
retire_from months n [] all [] same h = tt
retire_from months n [] all (at ∷ serving) same h = absurd h
retire_from months n (r ∷ rows) all [] same h = (still months r h.0, retire_from months (n + 1) rows all [] (stand_next n r rows all same) h.1)
retire_from months n (r ∷ rows) all (at ∷ serving) same (inl h) =
    by_test (serves_at (months + 1) all at) (here ∙ refl) (retire_from months (n + 1) rows all serving (stand_next n r rows all same) h.1)
  where
    there : at ≡ n + 0
    there = omega (arith, h.0)

    here : serves_at (months + 1) all at ≡ serves (months + 1) r
    here = ap (serves_at (months + 1) all) there ∙ ap (serves_if (months + 1)) (same zero (omega arith))

    by_test : (b : Bool) → b ≡ serves (months + 1) r → ServeFrom (months + 1) (n + 1) rows (filter (serves_at (months + 1) all) serving) →
        ServeFrom (months + 1) n (r ∷ rows) (if b then at ∷ filter (serves_at (months + 1) all) serving else filter (serves_at (months + 1) all) serving)
    by_test true e more = inl (h.0, more)
    by_test false e more = skip (months + 1) n r rows (filter (serves_at (months + 1) all) serving) (sym e) more
retire_from months n (r ∷ rows) all (at ∷ serving) same (inr h) =
    skip (months + 1) n r rows (filter (serves_at (months + 1) all) (at ∷ serving)) (still months r h.0) (retire_from months (n + 1) rows all (at ∷ serving) (stand_next n r rows all same) h.1)

pub retired : (months : ℕ) (rows : List AssetRow) (serving : List ℕ) → ServeFrom months 0 rows serving → ServeFrom (months + 1) 0 rows (filter (serves_at (months + 1) rows) serving)
retired months rows serving h = retire_from months 0 rows rows serving (λ i l. ap (slice_get rows) (let z : 0 + i ≡ i = omega arith in z)) h

-- ---- sums

abbrev StandAt : ℕ → AssetRow → List AssetRow → List AssetRow → Type 0
StandAt n d rows all = (i : ℕ) → i < length rows → get_or all (n + i) d ≡ get_or rows i d

at_next : (n : ℕ) (d r : AssetRow) (rows all : List AssetRow) → StandAt n d (r ∷ rows) all → StandAt (n + 1) d rows all
at_next n d r rows all same i l =
    let there : (n + 1) + i ≡ n + suc i = omega arith in
    ap (λ k. get_or all k d) there ∙ same (suc i) (omega arith)

sum_from : (f : AssetRow → ℕ) (months n : ℕ) (d : AssetRow) (rows all : List AssetRow) (serving : List ℕ) → StandAt n d rows all → ((k : ℕ) → k < length rows → serves months (get_or rows k d) ≡ false → f (get_or rows k d) ≡ 0) →
    ServeFrom months n rows serving → sum_by (λ at. f (get_or all at d)) serving ≡ sum_by f rows
sum_from f months n d [] all [] same none h = refl
sum_from f months n d [] all (at ∷ serving) same none h = absurd h
sum_from f months n d (r ∷ rows) all [] same none h =
    omega (arith, sum_by-cons f r rows, none zero (omega arith) h.0, sum_from f months (n + 1) d rows all [] (at_next n d r rows all same) (λ k l. none (suc k) (omega arith)) h.1)
sum_from f months n d (r ∷ rows) all (at ∷ serving) same none (inl h) =
    let there : at ≡ n + 0 = omega (arith, h.0) in
    let here : f (get_or all at d) ≡ f r = ap (λ k. f (get_or all k d)) there ∙ ap f (same zero (omega arith)) in
    omega (
      arith,
      sum_by-cons f r rows,
      sum_by-cons (λ k. f (get_or all k d)) at serving,
      here,
      sum_from f months (n + 1) d rows all serving (at_next n d r rows all same) (λ k l. none (suc k) (omega arith)) h.1,
    )
sum_from f months n d (r ∷ rows) all (at ∷ serving) same none (inr h) =
    omega (
      arith,
      sum_by-cons f r rows,
      none zero (omega arith) h.0,
      sum_from f months (n + 1) d rows all (at ∷ serving) (at_next n d r rows all same) (λ k l. none (suc k) (omega arith)) h.1,
    )

-- so a sum over the assets in service is one over all
pub sum_serving : (f : AssetRow → ℕ) (months : ℕ) (d : AssetRow) (rows : List AssetRow) (serving : List ℕ) → ((k : ℕ) → k < length rows → serves months (get_or rows k d) ≡ false → f (get_or rows k d) ≡ 0) →
    ServeFrom months 0 rows serving → sum_by (λ at. f (get_or rows at d)) serving ≡ sum_by f rows
sum_serving f months d rows serving none h = sum_from f months 0 d rows rows serving (λ i l. ap (λ k. get_or rows k d) (let z : 0 + i ≡ i = omega arith in z)) none h
