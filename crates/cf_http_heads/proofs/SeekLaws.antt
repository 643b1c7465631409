-- What the router finds.
use Rattle.std.proofs.Common.{◌≡◌, ℕ, zero, suc, ◌-◌, ◌<◌, List, [], ◌∷◌, ◌++◌, Bool, true, false, cond, eqb, Option, Some, None, length, drop, ltb, ◌&&◌, length-append, arith, refl, sym, ap, ◌∙◌, subst, nat_eq, codes}
use Rattle.cf_base.proofs.Common.{list_all, and_right, ne_eqb, eqb-true, eqb-false, leb-true, le-leb, false≢true, pointwise}
use Rattle.matchit.specs.Seek.{segment, has_slash, cuts, own, step, or_else, longest_suffix, param_step, seek, first}
use Rattle.matchit.specs.Rows.{RowsOf}
use Rattle.cf_http_heads.specs.Rows.{two, desk_rows}

param_none : {K : Type 0} (path : List ℕ) → (param_step {K = K} [] path).1 ≡ []
unfolding param_step
param_none {K} path = by_slash (has_slash path) refl
  where
    by_slash : (b : Bool) → has_slash path ≡ b → (param_step {K = K} [] path).1 ≡ []
    by_slash true e = rw e refl
    by_slash false e = rw e refl

seek_none : {K : Type 0} (n : ℕ) (path : List ℕ) → seek {K = K} n [] path ≡ None
unfolding seek
seek_none n [] = refl
seek_none (suc n) (b ∷ path) = seek_none n path
seek_none {K} zero (b ∷ path) =
    rw (seek_none {K = K} 0 path, param_none {K = K} (b ∷ path), seek_none {K = K} ((param_step {K = K} [] (b ∷ path)).0 - 1) path) refl

-- where no row begins with a parameter, a byte of the path is a byte of the rows
pub first_byte : {K : Type 0} (rows : RowsOf K) (b : ℕ) (path : List ℕ) → step 256 rows ≡ [] → step 257 rows ≡ [] → first rows (b ∷ path) ≡ first (step b rows) path
unfolding seek
first_byte {K} rows b path p c = rw (p, c, param_none {K = K} (b ∷ path), seek_none {K = K} ((param_step {K = K} [] (b ∷ path)).0 - 1) path) (or_none (seek 0 (step b rows) path))
  where
    or_none : (x : Option K) → or_else x (or_else None None) ≡ x
    or_none None = refl
    or_none (Some k) = refl

-- one row that goes on with a byte
pub lit_row : {K : Type 0} (x b : ℕ) (t : List ℕ) (k : K) (path : List ℕ) → x < 256 → first ((x ∷ t, k) ∷ []) (b ∷ path) ≡ cond (eqb x b) (first ((t, k) ∷ []) path) None
lit_row {K} x b t k path lt =
    let p = ne_eqb x 256 (λ e. omega (arith, e, lt)) in
    let c = ne_eqb x 257 (λ e. omega (arith, e, lt)) in
    first_byte ((x ∷ t, k) ∷ []) b path (rw p refl) (rw c refl) ∙ by_byte (eqb x b) refl
  where
    by_byte : (e : Bool) → eqb x b ≡ e → first (step b ((x ∷ t, k) ∷ [])) path ≡ cond (eqb x b) (first ((t, k) ∷ []) path) None
    by_byte true e = rw e refl
    by_byte false e = rw e (seek_none {K = K} 0 path)

-- the path begins with a word: what follows it
abbrev pub after_word : List ℕ → List ℕ → Option (List ℕ)
after_word [] path = Some path
after_word (x ∷ w) [] = None
after_word (x ∷ w) (b ∷ path) = cond (eqb x b) (after_word w path) None

abbrev pub on_rest : {K : Type 0} → (List ℕ → Option K) → Option (List ℕ) → Option K
on_rest f None = None
on_rest f (Some rest) = f rest

abbrev IsWord : List ℕ → Type 0
IsWord [] = Unit {0}
IsWord (x ∷ w) = (x < 256) × IsWord w

rest_by : {K : Type 0} (f : List ℕ → Option K) (e : Bool) (x : Option (List ℕ)) → cond e (on_rest f x) None ≡ on_rest f (cond e x None)
rest_by f true x = refl
rest_by f false x = refl

word_ok : (w : List ℕ) → list_all (λ x. ltb x 256) w ≡ true → IsWord w
word_ok [] e = tt
word_ok (x ∷ w) e = by_test (ltb x 256) refl (word_ok w)
  where
    by_test : (t : Bool) → ltb x 256 ≡ t → (list_all (λ x. ltb x 256) w ≡ true → IsWord w) → IsWord (x ∷ w)
    by_test true lt later = (leb-true (suc x) 256 lt, later (rw lt at e))
    by_test false lt later = absurd (false≢true (rw lt at e))

-- one row that begins with a word, and goes on
pub word_row : {K : Type 0} (w : List ℕ) (y : ℕ) (t : List ℕ) (k : K) (path : List ℕ) → IsWord w → first ((w ++ y ∷ t, k) ∷ []) path ≡ on_rest (first ((y ∷ t, k) ∷ [])) (after_word w path)
unfolding seek
word_row [] y t k path is = refl
word_row (x ∷ w) y t k [] is = refl
word_row {K} (x ∷ w) y t k (b ∷ path) is =
    lit_row x b (w ++ y ∷ t) k path is.0 ∙ ap (λ o. cond (eqb x b) o None) (word_row w y t k path is.1)
    ∙ rest_by (first ((y ∷ t, k) ∷ [])) (eqb x b) (after_word w path)

-- all of the path is skipped
skip_all : {K : Type 0} (rows : RowsOf K) (path : List ℕ) → seek (length path) rows path ≡ own rows
unfolding seek
skip_all rows [] = refl
skip_all rows (b ∷ path) = skip_all rows path

-- one row that is a parameter and nothing else: it takes all of the path, which has no slash
pub last_part : {K : Type 0} (k : K) (b : ℕ) (path : List ℕ) → b < 256 → first ((256 ∷ [], k) ∷ []) (b ∷ path) ≡ cond (has_slash (b ∷ path)) None (Some k)
unfolding seek param_step
last_part {K} k b path lt = by_slash (has_slash (b ∷ path)) refl (ne_eqb 256 b (λ e. omega (arith, e, lt)))
  where
    by_slash : (s : Bool) → has_slash (b ∷ path) ≡ s → eqb 256 b ≡ false → first ((256 ∷ [], k) ∷ []) (b ∷ path) ≡ cond (has_slash (b ∷ path)) None (Some k)
    by_slash true s e = rw (e, s, seek_none {K = K} 0 path) refl
    by_slash false s e = let one : suc (length path) - 1 ≡ length path = omega arith in rw (e, s, seek_none {K = K} 0 path, one, skip_all (([], k) ∷ []) path) refl

-- ---- the first slash

-- a text with no slash begins with another byte, and goes on with none
pub no_slash : (b : ℕ) (bs : List ℕ) → has_slash (b ∷ bs) ≡ false → (eqb b 47 ≡ false) × (has_slash bs ≡ false)
no_slash b bs h = by_test (eqb b 47) refl
  where
    by_test : (t : Bool) → eqb b 47 ≡ t → (eqb b 47 ≡ false) × (has_slash bs ≡ false)
    by_test true e = absurd (false≢true (sym (rw e at h)))
    by_test false e = (e, rw e at h)

segment_alone : (p : List ℕ) → has_slash p ≡ false → segment p ≡ p
segment_alone [] h = refl
segment_alone (b ∷ bs) h = let n = no_slash b bs h in rw (n.0, segment_alone bs n.1) refl

segment_at : (a rest : List ℕ) → has_slash a ≡ false → segment (a ++ 47 ∷ rest) ≡ a ++ 47 ∷ []
segment_at [] rest h = refl
segment_at (b ∷ bs) rest h = let n = no_slash b bs h in rw (n.0, segment_at bs rest n.1) refl

-- and ends with none
no_end : (n : ℕ) (p : List ℕ) → has_slash p ≡ false → pointwise nat_eq (47 ∷ []) (drop n p) ≡ false
no_end zero [] h = refl
no_end (suc n) [] h = refl
no_end zero (b ∷ bs) h =
    let t = no_slash b bs h in
    let u : eqb 47 b ≡ false = ne_eqb 47 b (λ e. eqb-false b 47 t.0 (sym e)) in
    rw u refl
no_end (suc n) (b ∷ bs) h = no_end n bs (no_slash b bs h).1

drop_front : (a : List ℕ) → drop (length a) (a ++ 47 ∷ []) ≡ 47 ∷ []
drop_front [] = refl
drop_front (b ∷ bs) = drop_front bs

-- ---- a parameter before a slash

ends_no : (p : List ℕ) → has_slash p ≡ false → cuts p (47 ∷ []) ≡ false
ends_no p h = ap (λ e. ltb 1 (length p) && e) (no_end (length p - 1) p h) ∙ and_right (ltb 1 (length p)) false refl

ends_yes : (b : ℕ) (a : List ℕ) → cuts ((b ∷ a) ++ 47 ∷ []) (47 ∷ []) ≡ true
ends_yes b a =
    let n = length-append (b ∷ a) (47 ∷ []) in
    let long : ltb 1 (length ((b ∷ a) ++ 47 ∷ [])) ≡ true = le-leb 2 (length ((b ∷ a) ++ 47 ∷ [])) (omega (arith, n)) in
    let last : length ((b ∷ a) ++ 47 ∷ []) - 1 ≡ length (b ∷ a) = omega (arith, n) in
    let ends : pointwise nat_eq (47 ∷ []) (drop (length ((b ∷ a) ++ 47 ∷ []) - 1) ((b ∷ a) ++ 47 ∷ [])) ≡ true =
    ap (λ k. pointwise nat_eq (47 ∷ []) (drop k ((b ∷ a) ++ 47 ∷ []))) last ∙ ap (pointwise nat_eq (47 ∷ [])) (drop_front (b ∷ a)) in
    ap (λ e. e && pointwise nat_eq (47 ∷ []) (drop (length ((b ∷ a) ++ 47 ∷ []) - 1) ((b ∷ a) ++ 47 ∷ []))) long ∙ ends

suffix_no : {K : Type 0} (t : List ℕ) (k : K) (p : List ℕ) → has_slash p ≡ false → longest_suffix p ((47 ∷ t, k) ∷ []) ≡ []
suffix_no t k p h = ap (λ e. cond e (47 ∷ []) []) (ends_no p h)

suffix_yes : {K : Type 0} (t : List ℕ) (k : K) (b : ℕ) (a : List ℕ) → longest_suffix ((b ∷ a) ++ 47 ∷ []) ((47 ∷ t, k) ∷ []) ≡ 47 ∷ []
suffix_yes t k b a = ap (λ e. cond e (47 ∷ []) []) (ends_yes b a)

param_no : {K : Type 0} (t : List ℕ) (k : K) (p : List ℕ) → has_slash p ≡ false → param_step ((47 ∷ t, k) ∷ []) p ≡ (length p, (47 ∷ t, k) ∷ [])
unfolding param_step
param_no t k p h =
    let s : longest_suffix (segment p) ((47 ∷ t, k) ∷ []) ≡ [] = ap (λ g. longest_suffix g ((47 ∷ t, k) ∷ [])) (segment_alone p h) ∙ suffix_no t k p h in
    rw (s, h) refl

param_yes : {K : Type 0} (t : List ℕ) (k : K) (b : ℕ) (a rest : List ℕ) → has_slash (b ∷ a) ≡ false → param_step ((47 ∷ t, k) ∷ []) ((b ∷ a) ++ 47 ∷ rest) ≡ (length (b ∷ a), (47 ∷ t, k) ∷ [])
unfolding param_step
param_yes t k b a rest h =
    let g = segment_at (b ∷ a) rest h in
    let s : longest_suffix (segment ((b ∷ a) ++ 47 ∷ rest)) ((47 ∷ t, k) ∷ []) ≡ 47 ∷ [] = ap (λ x. longest_suffix x ((47 ∷ t, k) ∷ [])) g ∙ suffix_yes t k b a in
    let n = length-append (b ∷ a) (47 ∷ []) in
    let len : length ((b ∷ a) ++ 47 ∷ []) - 1 ≡ length (b ∷ a) = omega (arith, n) in
    rw (s, g, len) refl

-- no slash follows: the row doesn't match
pub part_no : {K : Type 0} (t : List ℕ) (k : K) (b : ℕ) (path : List ℕ) → b < 256 → has_slash (b ∷ path) ≡ false → first ((256 ∷ 47 ∷ t, k) ∷ []) (b ∷ path) ≡ None
unfolding seek
part_no {K} t k b path lt h =
    let byte = ne_eqb 256 b (λ e. omega (arith, e, lt)) in
    let p = param_no t k (b ∷ path) h in
    let one : suc (length path) - 1 ≡ length path = omega arith in
    rw (byte, seek_none {K = K} 0 path, p, one, skip_all ((47 ∷ t, k) ∷ []) path) refl

-- a slash comes at once
pub part_empty : {K : Type 0} (t : List ℕ) (k : K) (path : List ℕ) → first ((256 ∷ 47 ∷ t, k) ∷ []) (47 ∷ path) ≡ None
unfolding seek param_step
part_empty {K} t k path = rw (seek_none {K = K} 0 path) refl

skip_front : {K : Type 0} (rows : RowsOf K) (a rest : List ℕ) → seek (length a) rows (a ++ rest) ≡ seek 0 rows rest
unfolding seek
skip_front rows [] rest = refl
skip_front rows (b ∷ a) rest = skip_front rows a rest

or_first : {K : Type 0} (x : Option K) → or_else x None ≡ x
or_first None = refl
or_first (Some k) = refl

-- bytes and then a slash: the parameter takes the bytes
pub part_yes : {K : Type 0} (t : List ℕ) (k : K) (b : ℕ) (a rest : List ℕ) → b < 256 → has_slash (b ∷ a) ≡ false
    → first ((256 ∷ 47 ∷ t, k) ∷ []) ((b ∷ a) ++ 47 ∷ rest) ≡ first ((47 ∷ t, k) ∷ []) (47 ∷ rest)
unfolding seek
part_yes {K} t k b a rest lt h =
    let byte = ne_eqb 256 b (λ e. omega (arith, e, lt)) in
    let p = param_yes t k b a rest h in
    let one : suc (length a) - 1 ≡ length a = omega arith in
    rw (byte, seek_none {K = K} 0 (a ++ 47 ∷ rest), p, one, skip_front ((47 ∷ t, k) ∷ []) a (47 ∷ rest)) (or_first (first ((47 ∷ t, k) ∷ []) (47 ∷ rest)))

-- ---- the three routes

-- the path ends where the row does
abbrev pub ends_here : {K : Type 0} → K → Option (List ℕ) → Option K
ends_here k None = None
ends_here k (Some []) = Some k
ends_here k (Some (b ∷ rest)) = None

end_row : {K : Type 0} (k : K) (path : List ℕ) → first (([], k) ∷ []) path ≡ ends_here k (Some path)
unfolding seek
end_row k [] = refl
end_row {K} k (b ∷ path) = first_byte (([], k) ∷ []) b path refl refl ∙ seek_none {K = K} 0 path

ends_by : {K : Type 0} (k : K) (e : Bool) (x : Option (List ℕ)) → cond e (ends_here k x) None ≡ ends_here k (cond e x None)
ends_by k true x = refl
ends_by k false x = refl

-- a row of a word alone
pub word_end : {K : Type 0} (w : List ℕ) (k : K) (path : List ℕ) → IsWord w → first ((w, k) ∷ []) path ≡ ends_here k (after_word w path)
unfolding seek
word_end [] k path is = end_row k path
word_end (x ∷ w) k [] is = refl
word_end {K} (x ∷ w) k (b ∷ path) is =
    lit_row x b w k path is.0 ∙ ap (λ o. cond (eqb x b) o None) (word_end w k path is.1) ∙ ends_by k (eqb x b) (after_word w path)

module _ {K : Type 0} (calls lines reports : K) where
  abbrev pub after_slash : RowsOf K
  after_slash = (codes "calls", calls) ∷ (codes "lines/" ++ two, lines) ∷ (codes "reports/" ++ two, reports) ∷ []

  -- what the three rows find after the first slash
  abbrev pub found_after : List ℕ → Option K
  found_after path =
      or_else (ends_here calls (after_word (codes "calls") path))
      (or_else (on_rest (first ((two, lines) ∷ [])) (after_word (codes "lines/") path)) (on_rest (first ((two, reports) ∷ [])) (after_word (codes "reports/") path)))

  at_calls : (q : List ℕ) → first (step 99 after_slash) q ≡ found_after (99 ∷ q)
  at_calls q = word_end (codes "alls") calls q (word_ok (codes "alls") refl) ∙ sym (or_first (ends_here calls (after_word (codes "alls") q)))

  at_lines : (q : List ℕ) → first (step 108 after_slash) q ≡ found_after (108 ∷ q)
  at_lines q = word_row (codes "ines/") 256 (47 ∷ 256 ∷ []) lines q (word_ok (codes "ines/") refl) ∙ sym (or_first (on_rest (first ((two, lines) ∷ [])) (after_word (codes "ines/") q)))

  at_reports : (q : List ℕ) → first (step 114 after_slash) q ≡ found_after (114 ∷ q)
  at_reports q = word_row (codes "eports/") 256 (47 ∷ 256 ∷ []) reports q (word_ok (codes "eports/") refl)

  at_other : (c : ℕ) (q : List ℕ) → eqb 99 c ≡ false → eqb 108 c ≡ false → eqb 114 c ≡ false → first (step c after_slash) q ≡ found_after (c ∷ q)
  at_other c q x y z = rw (x, y, z) (seek_none {K = K} 0 q)

  by_byte : (c : ℕ) (q : List ℕ) (x y z : Bool) → eqb 99 c ≡ x → eqb 108 c ≡ y → eqb 114 c ≡ z → first (step c after_slash) q ≡ found_after (c ∷ q)
  by_byte c q true y z e f g = subst (λ d. first (step d after_slash) q ≡ found_after (d ∷ q)) (eqb-true 99 c e) (at_calls q)
  by_byte c q false true z e f g = subst (λ d. first (step d after_slash) q ≡ found_after (d ∷ q)) (eqb-true 108 c f) (at_lines q)
  by_byte c q false false true e f g = subst (λ d. first (step d after_slash) q ≡ found_after (d ∷ q)) (eqb-true 114 c g) (at_reports q)
  by_byte c q false false false e f g = at_other c q e f g

  pub found_rest : (path : List ℕ) → first after_slash path ≡ found_after path
  unfolding seek
  found_rest [] = refl
  found_rest (c ∷ q) = first_byte after_slash c q refl refl ∙ by_byte c q (eqb 99 c) (eqb 108 c) (eqb 114 c) refl refl refl

  at_slash : (b : ℕ) (path : List ℕ) (s : Bool) → eqb 47 b ≡ s → first (step b (desk_rows calls lines reports)) path ≡ cond (eqb 47 b) (found_after path) None
  at_slash b path true e = rw e (found_rest path)
  at_slash b path false e = rw e (seek_none {K = K} 0 path)

  -- what the router finds
  pub found_first : (b : ℕ) (path : List ℕ) → first (desk_rows calls lines reports) (b ∷ path) ≡ cond (eqb 47 b) (found_after path) None
  found_first b path = first_byte (desk_rows calls lines reports) b path refl refl ∙ at_slash b path (eqb 47 b) refl
