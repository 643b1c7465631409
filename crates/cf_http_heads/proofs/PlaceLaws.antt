-- What the router finds, in the words of a path.
use Rattle.std.proofs.Common.{◌≡◌, ℕ, length, drop, suc, ◌<◌, List, [], ◌∷◌, ◌++◌, Bool, true, false, cond, eqb, Option, Some, None, arith, refl, sym, ap, ◌∙◌, subst, codes, get_or, bytes_eq, Bor, option_and_then, option_map}
use Rattle.cf_base.proofs.Common.{eq-eqb, eqb-true, eqb-false, ne_eqb, bytes_eq-Decides}
use Rattle.matchit.specs.Seek.{has_slash, or_else, first, seek}
use Rattle.matchit.specs.Router.{RouteOf}
use Rattle.matchit.specs.Rows.{RowsOf}
use Rattle.cf_http_heads.specs.Fields.{parts}
use Rattle.cf_http_heads.specs.Rows.{two, desk_rows, router_rows, calls_row, lines_row, reports_row, IsPlace}
use Rattle.cf_base.specs.Common.{statement_of}
use Rattle.cf_http_heads.specs.Routes.{line_route, report_route, route_by, number_from, IsSplit, HasTwoWords}
use Rattle.cf_http_heads.specs.declared.route.Route.TheVariants as route
use Rattle.cf_http_heads.specs.declared.router.Place.{Place}
use Rattle.cf_http_heads.proofs.SeekLaws.{after_word, on_rest, ends_here, no_slash, part_no, part_empty, part_yes, lit_row, last_part, found_after, found_first}
use Rattle.cf_http_heads.proofs.FieldLaws.{parts_some}

-- all bytes are bytes
abbrev pub AreBytes : List ℕ → Type 0
AreBytes [] = Unit {0}
AreBytes (b ∷ bs) = (b < 256) × AreBytes bs

pub are_bytes : (text : List ℕ) → ((i : ℕ) → get_or text i 0 < 256) → AreBytes text
are_bytes [] each = tt
are_bytes (b ∷ bs) each = (each 0, are_bytes bs (λ i. each (suc i)))

-- a text up to its first slash
data View : List ℕ → Type 0 where
  alone : (p : List ℕ) → has_slash p ≡ false → AreBytes p → View p
  split : (a rest : List ℕ) → has_slash a ≡ false → AreBytes a → AreBytes rest → View (a ++ 47 ∷ rest)

view_more : (b : ℕ) (p : List ℕ) → b < 256 → (t : Bool) → eqb b 47 ≡ t → AreBytes p → View p → View (b ∷ p)
view_more b p lt true e are v = subst (λ x. View (x ∷ p)) (sym (eqb-true b 47 e)) (split [] p refl tt are)
view_more b p lt false e are (alone _ h bytes) = alone (b ∷ p) (rw e h) (lt, bytes)
view_more b p lt false e are (split a rest h bytes more) = split (b ∷ a) rest (rw e h) (lt, bytes) more

view : (p : List ℕ) → AreBytes p → View p
view [] are = alone [] refl tt
view (b ∷ p) are = view_more b p are.0 (eqb b 47) refl are.1 (view p are.1)

parts_alone : (p : List ℕ) → has_slash p ≡ false → parts 47 p ≡ p ∷ []
parts_alone [] h = refl
parts_alone (b ∷ p) h = let n = no_slash b p h in rw (n.0, parts_alone p n.1) refl

parts_split : (a rest : List ℕ) → has_slash a ≡ false → parts 47 (a ++ 47 ∷ rest) ≡ a ∷ parts 47 rest
parts_split [] rest h = refl
parts_split (b ∷ a) rest h = let n = no_slash b a h in rw (n.0, parts_split a rest n.1) refl

-- two words with bytes
abbrev pub both : {K : Type 0} → List ℕ → List ℕ → Option K → Option K
both [] c x = None
both (b ∷ bs) [] x = None
both (b ∷ bs) (c ∷ cs) x = x

abbrev pub pair_by : {K : Type 0} → K → List (List ℕ) → Option K
pair_by k [] = None
pair_by k (b ∷ []) = None
pair_by k (b ∷ c ∷ []) = both b c (Some k)
pair_by k (b ∷ c ∷ d ∷ ds) = None

pair_empty : {K : Type 0} (k : K) (ws : List (List ℕ)) → pair_by k ([] ∷ ws) ≡ None
pair_empty k [] = refl
pair_empty k (c ∷ []) = refl
pair_empty k (c ∷ d ∷ ds) = refl

has_split : (a rest : List ℕ) → has_slash (a ++ 47 ∷ rest) ≡ true
has_split [] rest = refl
has_split (b ∷ a) rest = by_byte (eqb b 47) refl (has_split a rest)
  where
    by_byte : (t : Bool) → eqb b 47 ≡ t → has_slash (a ++ 47 ∷ rest) ≡ true → has_slash ((b ∷ a) ++ 47 ∷ rest) ≡ true
    by_byte true e h = rw e refl
    by_byte false e h = rw e h

pair_three : {K : Type 0} (k : K) (x y r : List ℕ) → pair_by k (x ∷ y ∷ parts 47 r) ≡ None
pair_three k x y r = let h = parts_some 47 r in ap (λ ws. pair_by k (x ∷ y ∷ ws)) h.2

-- a last word with bytes
last_by : {K : Type 0} (k : K) (b : ℕ) (a rest : List ℕ) → View rest → first ((256 ∷ [], k) ∷ []) rest ≡ pair_by k ((b ∷ a) ∷ parts 47 rest)
unfolding seek
last_by k b a _ (alone [] h bytes) = refl
last_by {K} k b a _ (alone (c ∷ d) h bytes) = last_part k c d bytes.0 ∙ ap (λ s. cond s None (Some k)) h ∙ ap (λ ws. pair_by k ((b ∷ a) ∷ ws)) (sym (parts_alone (c ∷ d) h))
last_by {K} k b a _ (split [] r h bytes more) = last_part k 47 r (omega arith) ∙ sym (pair_three k (b ∷ a) [] r)
last_by {K} k b a _ (split (c ∷ d) r h bytes more) =
    last_part k c (d ++ 47 ∷ r) bytes.0 ∙ ap (λ s. cond s None (Some k)) (has_split (c ∷ d) r)
    ∙ sym (ap (λ ws. pair_by k ((b ∷ a) ∷ ws)) (parts_split (c ∷ d) r h) ∙ pair_three k (b ∷ a) (c ∷ d) r)

pair_view : {K : Type 0} (k : K) (rest : List ℕ) → View rest → first ((two, k) ∷ []) rest ≡ pair_by k (parts 47 rest)
unfolding seek
pair_view k _ (alone [] h bytes) = refl
pair_view k _ (alone (b ∷ p) h bytes) = part_no (256 ∷ []) k b p bytes.0 h ∙ ap (pair_by k) (sym (parts_alone (b ∷ p) h))
pair_view k _ (split [] r h bytes more) = part_empty (256 ∷ []) k r ∙ sym (pair_empty k (parts 47 r))
pair_view k _ (split (b ∷ a) r h bytes more) =
    part_yes (256 ∷ []) k b a r bytes.0 h ∙ lit_row 47 47 (256 ∷ []) k r (omega arith) ∙ last_by k b a r (view r more) ∙ ap (pair_by k) (sym (parts_split (b ∷ a) r h))

-- ---- the first word

eqb_swap : (x b : ℕ) → eqb b x ≡ false → eqb x b ≡ false
eqb_swap x b e = ne_eqb x b (λ f. eqb-false b x e (sym f))

word_alone : {K : Type 0} (k : K) (w a : List ℕ) → ends_here k (after_word w a) ≡ cond (bytes_eq w a) (Some k) None
word_alone k [] [] = refl
word_alone k [] (b ∷ a) = refl
word_alone k (x ∷ w) [] = refl
word_alone {K} k (x ∷ w) (b ∷ a) = by_byte (eqb x b) refl (word_alone k w a)
  where
    by_byte : (t : Bool) → eqb x b ≡ t → ends_here k (after_word w a) ≡ cond (bytes_eq w a) (Some k) None → ends_here k (after_word (x ∷ w) (b ∷ a)) ≡ cond (bytes_eq (x ∷ w) (b ∷ a)) (Some k) None
    by_byte true e h = rw e h
    by_byte false e h = rw e refl

word_more : {K : Type 0} (k : K) (w a rest : List ℕ) → has_slash w ≡ false → ends_here k (after_word w (a ++ 47 ∷ rest)) ≡ None
word_more k [] [] rest h = refl
word_more k [] (b ∷ a) rest h = refl
word_more k (x ∷ w) [] rest h = let n = no_slash x w h in rw n.0 refl
word_more {K} k (x ∷ w) (b ∷ a) rest h = by_byte (eqb x b) refl (word_more k w a rest (no_slash x w h).1)
  where
    by_byte : (t : Bool) → eqb x b ≡ t → ends_here k (after_word w (a ++ 47 ∷ rest)) ≡ None → ends_here k (after_word (x ∷ w) ((b ∷ a) ++ 47 ∷ rest)) ≡ None
    by_byte true e l = rw e l
    by_byte false e l = rw e refl

slash_none : (w a : List ℕ) → has_slash a ≡ false → after_word (w ++ 47 ∷ []) a ≡ None
slash_none [] [] h = refl
slash_none [] (b ∷ a) h = let n = no_slash b a h in rw (eqb_swap 47 b n.0) refl
slash_none (x ∷ w) [] h = refl
slash_none (x ∷ w) (b ∷ a) h = by_byte (eqb x b) refl (slash_none w a (no_slash b a h).1)
  where
    by_byte : (t : Bool) → eqb x b ≡ t → after_word (w ++ 47 ∷ []) a ≡ None → after_word ((x ∷ w) ++ 47 ∷ []) (b ∷ a) ≡ None
    by_byte true e l = rw e l
    by_byte false e l = rw e refl

slash_word : (w a rest : List ℕ) → has_slash w ≡ false → has_slash a ≡ false → after_word (w ++ 47 ∷ []) (a ++ 47 ∷ rest) ≡ cond (bytes_eq w a) (Some rest) None
slash_word [] [] rest g h = refl
slash_word [] (b ∷ a) rest g h = let n = no_slash b a h in rw (eqb_swap 47 b n.0) refl
slash_word (x ∷ w) [] rest g h = let n = no_slash x w g in rw n.0 refl
slash_word (x ∷ w) (b ∷ a) rest g h = by_byte (eqb x b) refl (slash_word w a rest (no_slash x w g).1 (no_slash b a h).1)
  where
    by_byte : (t : Bool) → eqb x b ≡ t → after_word (w ++ 47 ∷ []) (a ++ 47 ∷ rest) ≡ cond (bytes_eq w a) (Some rest) None
        → after_word ((x ∷ w) ++ 47 ∷ []) ((b ∷ a) ++ 47 ∷ rest) ≡ cond (bytes_eq (x ∷ w) (b ∷ a)) (Some rest) None
    by_byte true e l = rw e l
    by_byte false e l = rw e refl

-- ---- what the router finds, in words

module _ {K : Type 0} (calls lines reports : K) where
  -- the words after the first slash
  abbrev pub place_by : List (List ℕ) → Option K
  place_by [] = None
  place_by (a ∷ []) = cond (bytes_eq (codes "calls") a) (Some calls) None
  place_by (a ∷ b ∷ ws) =
      cond (bytes_eq (codes "lines") a) (pair_by lines (b ∷ ws)) (cond (bytes_eq (codes "reports") a) (pair_by reports (b ∷ ws)) None)

  -- the words of a path
  abbrev pub place_of : List (List ℕ) → Option K
  place_of [] = None
  place_of ([] ∷ ws) = place_by ws
  place_of ((b ∷ bs) ∷ ws) = None

  or_second : (x y : Option K) (s : Bool) → or_else (cond s x None) (cond s None y) ≡ cond s x y
  or_second None y true = refl
  or_second (Some k) y true = refl
  or_second x y false = refl

  -- a word isn't both
  apart : (a : List ℕ) (y : Option K) → cond (bytes_eq (codes "lines") a) None (cond (bytes_eq (codes "reports") a) y None) ≡ cond (bytes_eq (codes "reports") a) y None
  apart a y = by_test (bytes_eq (codes "lines") a) refl
    where
      by_test : (t : Bool) → bytes_eq (codes "lines") a ≡ t → cond (bytes_eq (codes "lines") a) None (cond (bytes_eq (codes "reports") a) y None) ≡ cond (bytes_eq (codes "reports") a) y None
      by_test true e = subst (λ w. cond (bytes_eq (codes "lines") w) None (cond (bytes_eq (codes "reports") w) y None) ≡ cond (bytes_eq (codes "reports") w) y None) ((bytes_eq-Decides (codes "lines") a).0 e) refl
      by_test false e = rw e refl

  on_cond : (f : List ℕ → Option K) (s : Bool) (rest : List ℕ) → on_rest f (cond s (Some rest) None) ≡ cond s (f rest) None
  on_cond f true rest = refl
  on_cond f false rest = refl

  two_rows : (a : List ℕ) (x y : Option K)
      → or_else (cond (bytes_eq (codes "lines") a) x None) (cond (bytes_eq (codes "reports") a) y None) ≡ cond (bytes_eq (codes "lines") a) x (cond (bytes_eq (codes "reports") a) y None)
  two_rows a x y =
      ap (or_else (cond (bytes_eq (codes "lines") a) x None)) (sym (apart a y)) ∙ or_second x (cond (bytes_eq (codes "reports") a) y None) (bytes_eq (codes "lines") a)

  or_nothing : (x : Option K) → or_else x (or_else None None) ≡ x
  or_nothing None = refl
  or_nothing (Some k) = refl

  by_words : (a rest : List ℕ) → place_by (a ∷ parts 47 rest)
      ≡ cond (bytes_eq (codes "lines") a) (pair_by lines (parts 47 rest)) (cond (bytes_eq (codes "reports") a) (pair_by reports (parts 47 rest)) None)
  by_words a rest = let h = parts_some 47 rest in rw h.2 refl

  found_view : (p : List ℕ) → View p → found_after calls lines reports p ≡ place_by (parts 47 p)
  found_view _ (alone a h bytes) =
      rw (word_alone calls (codes "calls") a, slash_none (codes "lines") a h, slash_none (codes "reports") a h, parts_alone a h) (or_nothing (cond (bytes_eq (codes "calls") a) (Some calls) None))
  found_view _ (split a rest h bytes more) =
      let r = view rest more in
      let ws = parts 47 rest in
      let l = bytes_eq (codes "lines") a in
      let s = bytes_eq (codes "reports") a in
      let f = first ((two, lines) ∷ []) in
      let g = first ((two, reports) ∷ []) in
      rw (word_more calls (codes "calls") a rest refl, slash_word (codes "lines") a rest refl h, slash_word (codes "reports") a rest refl h) (
      ap (λ x. or_else x (on_rest g (cond s (Some rest) None))) (on_cond f l rest)
      ∙ ap (or_else (cond l (f rest) None)) (on_cond g s rest)
      ∙ two_rows a (f rest) (g rest)
      ∙ ap (λ x. cond l x (cond s (g rest) None)) (pair_view lines rest r)
      ∙ ap (λ y. cond l (pair_by lines ws) (cond s y None)) (pair_view reports rest r)
      ∙ sym (by_words a rest)
      ∙ ap place_by (sym (parts_split a rest h)))

  -- The router finds what the words of the path say.
  pub found_is : (path : List ℕ) → AreBytes path → first (desk_rows calls lines reports) path ≡ place_of (parts 47 path)
  unfolding seek
  found_is [] are = refl
  found_is (b ∷ p) are = found_first calls lines reports b p ∙ by_byte (eqb b 47) refl (found_view p (view p are.1))
    where
      by_byte : (t : Bool) → eqb b 47 ≡ t → found_after calls lines reports p ≡ place_by (parts 47 p) → cond (eqb 47 b) (found_after calls lines reports p) None ≡ place_of (parts 47 (b ∷ p))
      by_byte true e h = let f : eqb 47 b ≡ true = eq-eqb 47 b (sym (eqb-true b 47 e)) in rw (f, e) h
      by_byte false e h = let f = eqb_swap 47 b e in let w = parts_some 47 p in rw (f, e, w.2) refl

-- ---- what a place says of the route

bytes_swap : (a b : List ℕ) → bytes_eq a b ≡ bytes_eq b a
bytes_swap [] [] = refl
bytes_swap [] (y ∷ ys) = refl
bytes_swap (x ∷ xs) [] = refl
bytes_swap (x ∷ xs) (y ∷ ys) = by_byte (eqb x y) refl (bytes_swap xs ys)
  where
    by_byte : (s : Bool) → eqb x y ≡ s → bytes_eq xs ys ≡ bytes_eq ys xs → bytes_eq (x ∷ xs) (y ∷ ys) ≡ bytes_eq (y ∷ ys) (x ∷ xs)
    by_byte true e h = let f : eqb y x ≡ true = eq-eqb y x (sym (eqb-true x y e)) in rw (e, f) h
    by_byte false e h = let f = eqb_swap y x e in rw (e, f) refl

no_second : (line : List ℕ) → line_route line [] ≡ None
no_second line = by_line (number_from 0 65535 line)
  where
    by_line : (n : Option ℕ) → option_and_then (λ l. option_map (λ y. route.Line l y) (number_from 1971 2199 [])) n ≡ None
    by_line None = refl
    by_line (Some l) = refl

no_kind : (year : List ℕ) → report_route year [] ≡ None
no_kind year = by_year (number_from 1971 2199 year)
  where
    by_year : (n : Option ℕ) → option_and_then (λ y. option_map (λ k. route.Report y k) (statement_of [])) n ≡ None
    by_year None = refl
    by_year (Some y) = refl

-- the place that the router finds, if it finds one
abbrev pub place_found : Option (RouteOf Place) → Option Place
place_found None = None
place_found (Some r) = Some r.value

-- a word alone
one_word : (a : List ℕ) (s : Bool) → bytes_eq a (codes "calls") ≡ s → IsPlace ([] ∷ a ∷ []) (place_found (cond s (Some calls_row) None))
one_word a true e = rw e refl
one_word a false e = rw e refl

-- three words, the first of which is that of lines
line_words : (a b c : List ℕ) → bytes_eq a (codes "lines") ≡ true → IsPlace ([] ∷ a ∷ b ∷ c ∷ []) (place_found (both b c (Some lines_row)))
line_words a [] c e = rw e refl
line_words a (b ∷ bs) [] e = rw e (no_second (b ∷ bs))
line_words a (b ∷ bs) (c ∷ cs) e = (a, b ∷ bs, c ∷ cs, refl, rw e refl)

report_words : (a b c : List ℕ) → bytes_eq a (codes "lines") ≡ false → bytes_eq a (codes "reports") ≡ true → IsPlace ([] ∷ a ∷ b ∷ c ∷ []) (place_found (both b c (Some reports_row)))
report_words a [] c other e = rw (other, e) refl
report_words a (b ∷ bs) [] other e = rw (other, e) (no_kind (b ∷ bs))
report_words a (b ∷ bs) (c ∷ cs) other e = (a, b ∷ bs, c ∷ cs, refl, rw (other, e) refl)

three_words : (a b c : List ℕ) (s t : Bool) → bytes_eq a (codes "lines") ≡ s → bytes_eq a (codes "reports") ≡ t
    → IsPlace ([] ∷ a ∷ b ∷ c ∷ []) (place_found (cond s (both b c (Some lines_row)) (cond t (both b c (Some reports_row)) None)))
three_words a b c true t e f = line_words a b c e
three_words a b c false true e f = report_words a b c e f
three_words a b c false false e f = rw (e, f) refl

no_place : (words : List (List ℕ)) (s t : Bool) → route_by words ≡ None → IsPlace words (place_found (cond s None (cond t None None)))
no_place words true t e = e
no_place words false true e = e
no_place words false false e = e

-- The place that stands for the words of a path tells their route.
pub place_is : (words : List (List ℕ)) → IsPlace words (place_found (place_of calls_row lines_row reports_row words))
place_is [] = refl
place_is ((z ∷ zs) ∷ words) = refl
place_is ([] ∷ []) = refl
place_is ([] ∷ a ∷ []) = one_word a (bytes_eq (codes "calls") a) (bytes_swap a (codes "calls"))
place_is ([] ∷ a ∷ b ∷ []) = no_place ([] ∷ a ∷ b ∷ []) (bytes_eq (codes "lines") a) (bytes_eq (codes "reports") a) refl
place_is ([] ∷ a ∷ b ∷ c ∷ []) =
    three_words a b c (bytes_eq (codes "lines") a) (bytes_eq (codes "reports") a) (bytes_swap a (codes "lines")) (bytes_swap a (codes "reports"))
place_is ([] ∷ a ∷ b ∷ c ∷ d ∷ ds) =
    no_place ([] ∷ a ∷ b ∷ c ∷ d ∷ ds) (bytes_eq (codes "lines") a) (bytes_eq (codes "reports") a) refl

-- What the router finds for a path tells the path's route.
pub found_place : (rows : RowsOf (RouteOf Place)) (path : List ℕ) (found : Option (RouteOf Place)) → rows ≡ router_rows → AreBytes path → first rows path ≡ found → IsPlace (parts 47 path) (place_found found)
found_place rows path found desk bytes e =
    subst (λ r. IsPlace (parts 47 path) (place_found r)) (sym (found_is calls_row lines_row reports_row path bytes) ∙ ap (λ x. first x path) (sym desk) ∙ e) (place_is (parts 47 path))

-- ---- the last words

-- a text with one part is that part
alone_is : (text part : List ℕ) → parts 47 text ≡ part ∷ [] → text ≡ part
alone_is [] part e = ap (λ (ws : List (List ℕ)). get_or ws 0 []) e
alone_is (b ∷ bs) part e = by_byte (eqb b 47) refl (parts_some 47 bs) (alone_is bs)
  where
    by_byte : (s : Bool) → eqb b 47 ≡ s → ((w : List ℕ) × (ws : List (List ℕ)) × (parts 47 bs ≡ w ∷ ws)) → ((w : List ℕ) → parts 47 bs ≡ w ∷ [] → bs ≡ w) → b ∷ bs ≡ part
    by_byte true h p later = let two : [] ∷ p.0 ∷ p.1 ≡ part ∷ [] = rw (h, p.2) at e in let n = ap length two in absurd (omega (arith, n))
    by_byte false h p later =
        let one : (b ∷ p.0) ∷ p.1 ≡ part ∷ [] = rw (h, p.2) at e in
        let none : p.1 ≡ [] = ap (drop 1) one in
        ap (λ t. b ∷ t) (later p.0 (p.2 ∙ ap (λ ws. p.0 ∷ ws) none)) ∙ ap (λ (ws : List (List ℕ)). get_or ws 0 []) one

-- a text of two words is split into them
pub last_two : (b c text : List ℕ) (r : Option (Bor (List ℕ) × Bor (List ℕ))) → parts 47 text ≡ b ∷ c ∷ [] → IsSplit text r → HasTwoWords b c r
last_two b c text None words is = let n = ap length (sym words ∙ is) in absurd (omega (arith, n))
last_two b c text (Some x) words is =
    let e : x.0.now ∷ parts 47 x.1.now ≡ b ∷ c ∷ [] = sym is ∙ words in
    (ap (λ (ws : List (List ℕ)). get_or ws 0 []) e, alone_is x.1.now c (ap (drop 1) e))
