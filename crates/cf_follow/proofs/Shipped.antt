-- A shipped stream of a history that continues the office's own is followed without a difference.
use Rattle.std.proofs.Common.{◌≡◌, ℕ, zero, suc, ◌+◌, ◌-◌, ◌≤◌, List, [], ◌∷◌, ◌++◌, length, take, drop, refl, sym, ◌∙◌, ap, subst, append-nil, ◌≢◌, arith, append_assoc, Option, Some, None, ◌^◌, ◌<◌, lit<, length-append, All, slice_get, w32, w64}
use Rattle.cf_base.proofs.Common.{Consumes, IsAtEnd, take_all, length-drop, drop-drop, All-nil, All-cons, All-tail, All-head, to_be_bytes, nat_tests}
use Rattle.cf_codec.specs.Entries.{payload, read_of}
use Rattle.cf_codec.proofs.EntriesExact.{is_of_two, reads_back}
use Rattle.cf_follow.specs.declared.end.FollowEnd.TheVariants.{StreamFault}
use Rattle.cf_calls.specs.declared.entry.Entry.{Entry}
use Rattle.cf_journal.specs.Records.{record_of, records_of, of_length}
use Rattle.cf_journal.proofs.RecordLaws.{records_front, records_none}
use Rattle.cf_journal_stream.specs.Streams.{HasFrame, head_of, HeadFault, RecordFault, TextFault}
use Rattle.cf_journal_stream.proofs.Lists.{get_take, get_drop, get_first, split_same, word_same, long_same}
use Rattle.cf_journal_stream.proofs.Records.{head_same, records_part}
use Rattle.cf_follow.specs.Admitting.{Office}
use Rattle.cf_follow.specs.Following.{FollowEnds, Following, HeadEnds, IsFrameOf, Stops}
use Rattle.cf_follow.specs.Laws.{IsBehind, IsShipped, IsCopy}
use Rattle.cf_follow.specs.declared.end.FollowEnd.{FollowEnd}
use Rattle.cf_follow.proofs.Places.{follows_front, long_enough}

-- what was taken of known bytes
taken : (given : List ℕ) (left left' : Option (List ℕ)) (bytes : List ℕ) → left ≡ Some given → Consumes left left' bytes → (rest : List ℕ) × (left' ≡ Some rest) × (given ≡ bytes ++ rest)
taken given None left' bytes is took = absurd (cc is)
taken given (Some xs) None bytes is took = absurd took
taken given (Some xs) (Some ys) bytes is took = let same : xs ≡ given = cc is in (ys, refl, sym same ∙ took)

frames_drop : (n : ℕ) (es : List Entry) → All HasFrame es → All HasFrame (drop n es)
frames_drop zero es has = has
frames_drop (suc n) [] has = has
frames_drop (suc n) (e ∷ es) has = frames_drop n es (All-tail HasFrame e es has)

-- the entries that were taken, and what is behind them
record Took {F : Type 0} (o : Office F) (whole : List Entry) (now : F) (middle : Option (List ℕ)) (lost behind : List ℕ) (place : ℕ) : Type 0 where
  front : o.history now ≡ take (length (o.history now)) whole
  long : place ≤ length (o.history now)
  rest : List ℕ
  left : middle ≡ Some rest
  later : List Entry
  later_are : later ≡ drop place whole
  frames : All HasFrame later
  joins : rest ++ lost ≡ records_of later ++ (0 ∷ behind)

-- the next entry of the stream is the one of its place
next_entry : (whole later : List Entry) (place : ℕ) (e : Entry) (bytes x rest : List ℕ) → later ≡ drop place whole → All HasFrame later → IsFrameOf bytes e → bytes ++ x ≡ records_of later ++ 0 ∷ rest → slice_get whole place ≡ Some e
next_entry whole later place e bytes x rest is has frame joins =
    let one : records_of (e ∷ []) ++ x ≡ records_of later ++ 0 ∷ rest =
    records_front e [] x ∙ ap (λ (l : List ℕ). 1 ∷ (record_of e ++ l)) (records_none x) ∙ ap (λ (l : List ℕ). l ++ x) (sym frame.bytes_are) ∙ joins in
    let part = records_part (e ∷ []) later x rest (All-cons HasFrame e [] frame.has (All-nil HasFrame)) has one in
    let zero_on : place + 0 ≡ place = omega arith in
    sym (get_drop place whole 0 ∙ ap (slice_get whole) zero_on) ∙ ap (λ (l : List Entry). slice_get l 0) (sym is) ∙ get_first e later part.0

module _ {F : Type 0} (o : Office F) (chart : List ℕ) (start : F) (whole : List Entry) (behind_is : IsBehind o start whole) where
  -- ---- the records so far

  took : (now : F) (left middle : Option (List ℕ)) (from : ℕ) (es : List Entry) (s : IsShipped chart whole left) → Following o chart start now left middle from es → Took o whole now middle s.lost s.behind (from + length es)
  took now left middle from es s f =
      let first = taken s.given left middle (head_of from chart ++ records_of es) s.are f.took in
      let whole_bytes : head_of from chart ++ (records_of es ++ (first.0 ++ s.lost)) ≡ head_of s.from chart ++ (records_of (drop s.from whole) ++ (0 ∷ s.behind)) =
      sym (append_assoc (head_of from chart) (records_of es) (first.0 ++ s.lost)) ∙ sym (append_assoc (head_of from chart ++ records_of es) first.0 s.lost) ∙ ap (λ (l : List ℕ). l ++ s.lost) (sym first.2) ∙ s.joins
      ∙ append_assoc (head_of s.from chart) (records_of (drop s.from whole) ++ 0 ∷ []) s.behind ∙ ap (λ (l : List ℕ). head_of s.from chart ++ l) (append_assoc (records_of (drop s.from whole)) (0 ∷ []) s.behind) in
      let heads = head_same from s.from chart (records_of es ++ (first.0 ++ s.lost)) (records_of (drop s.from whole) ++ (0 ∷ s.behind)) f.small s.small whole_bytes in
      let records = records_part es (drop s.from whole) (first.0 ++ s.lost) s.behind f.frames (frames_drop s.from whole behind_is.frames) heads.1 in
      let mine : es ≡ take (length es) (drop from whole) = records.0 ∙ ap (λ (n : ℕ). take (length es) (drop n whole)) (sym heads.0) in
      record {
        front = follows_front from (length (o.history start)) whole (o.history start) es (o.history now) f.follows behind_is.front mine;
        long = long_enough from (o.history start) es (o.history now) f.follows;
        rest = first.0;
        left = first.1;
        later = drop (length es) (drop s.from whole);
        later_are = ap (λ (n : ℕ). drop (length es) (drop n whole)) (sym heads.0) ∙ drop-drop (length es) from whole;
        frames = frames_drop (length es) (drop s.from whole) (frames_drop s.from whole behind_is.frames);
        joins = records.1;
      }

  -- ---- how it stops

  copied : (now after : F) → o.history now ≡ take (length (o.history now)) whole → o.history after ≡ o.history now → o.history after ≡ take (length (o.history after)) whole
  copied now after front same = same ∙ front ∙ ap (λ (h : List Entry). take (length h) whole) (sym same)

  none_left : (later : List Entry) (x rest : List ℕ) → 0 ∷ x ≡ records_of later ++ 0 ∷ rest → later ≡ []
  none_left [] x rest is = refl
  none_left (e ∷ es) x rest is = let open_ : 0 ∷ x ≡ 1 ∷ (record_of e ++ (records_of es ++ 0 ∷ rest)) = is ∙ records_front e es (0 ∷ rest) in absurd (cc open_)

  module _ (now : F) (middle : Option (List ℕ)) (lost behind : List ℕ) (place at : ℕ) (t : Took o whole now middle lost behind place) (since : o.since start now None) where
    next_bytes : (left' : Option (List ℕ)) (bytes : List ℕ) → Consumes middle left' bytes → (x : List ℕ) × (bytes ++ x ≡ records_of t.later ++ (0 ∷ behind))
    next_bytes left' bytes took' =
        let more = taken t.rest middle left' bytes t.left took' in
        (more.0 ++ lost, sym (append_assoc bytes more.0 lost) ∙ ap (λ (l : List ℕ). l ++ lost) (sym more.2) ∙ t.joins)

    at_place : (left' : Option (List ℕ)) (bytes : List ℕ) (e : Entry) → Consumes middle left' bytes → IsFrameOf bytes e → slice_get whole place ≡ Some e
    at_place left' bytes e took' frame = let next = next_bytes left' bytes took' in next_entry whole t.later place e bytes next.0 behind t.later_are t.frames frame next.1

    all_taken : (left' : Option (List ℕ)) (bytes : List ℕ) → Consumes middle left' bytes → bytes ≡ 0 ∷ [] → o.history now ≡ whole
    all_taken left' bytes took' is =
        let next = next_bytes left' bytes took' in
        let none : t.later ≡ [] = none_left t.later next.0 behind (ap (λ (l : List ℕ). l ++ next.0) (sym is) ∙ next.1) in
        let short : length whole - place ≡ 0 = sym (length-drop place whole) ∙ ap length (sym t.later_are ∙ none) in
        t.front ∙ take_all (length (o.history now)) whole (omega (arith, short, t.long))

    ended : (left' : Option (List ℕ)) (bytes : List ℕ) (after : F) (how : FollowEnd) → Consumes middle left' bytes → Stops o now place at bytes left' after how → IsCopy o whole after how
    ended left' bytes after how took' (Stops.done is same) = record {
      front = copied now after t.front (ap o.history same);
      all = λ e. ap o.history same ∙ all_taken left' bytes took' is;
      same = λ k e. cc;
      taken = λ k n e. cc;
    }
    ended left' bytes after how took' (Stops.read_fault part same) = record { front = copied now after t.front (ap o.history same); all = λ e. cc; same = λ k e. cc; taken = λ k n e. cc }
    ended left' bytes after how took' (Stops.memory part same) = record { front = copied now after t.front (ap o.history same); all = λ e. cc; same = λ k e. cc; taken = λ k n e. cc }
    ended left' bytes after how took' (Stops.fault k is same) = record { front = copied now after t.front (ap o.history same); all = λ e. cc; same = λ k e. cc; taken = λ k n e. cc }
    ended left' bytes after how took' (Stops.forked x own frame stands differ same) =
        let mine : slice_get whole place ≡ Some own = get_take (length (o.history now)) whole place own (ap (λ (h : List Entry). slice_get h place) (sym t.front) ∙ stands) in
        let theirs : slice_get whole place ≡ Some x = at_place left' bytes x took' frame in
        let one : own ≡ x = cc (mine, theirs) in
        absurd (differ one)
    ended left' bytes after how took' (Stops.refused x n frame ends refuses same) =
        let theirs : slice_get whole (length (o.history now)) ≡ Some x = ap (slice_get whole) (sym ends) ∙ at_place left' bytes x took' frame in
        let none : o.refusal now x ≡ None = behind_is.takes now x since t.front theirs in
        absurd (cc (none, refuses))
    ended left' bytes after how took' (Stops.failed x frame ends fails) = record { front = copied now after t.front fails.stays; all = λ e. cc; same = λ k e. cc; taken = λ k n e. cc }

  at_front : (after : F) (left left' : Option (List ℕ)) (how : FollowEnd) → HeadEnds chart (length (o.history start)) left left' how → after ≡ start → IsCopy o whole after how
  at_front after left left' how (HeadEnds.read_fault bytes took' part) same = record { front = copied start after behind_is.front (ap o.history same); all = λ e. cc; same = λ k e. cc; taken = λ k n e. cc }
  at_front after left left' how (HeadEnds.memory bytes took' part) same = record { front = copied start after behind_is.front (ap o.history same); all = λ e. cc; same = λ k e. cc; taken = λ k n e. cc }
  at_front after left left' how (HeadEnds.fault bytes k took' is) same = record { front = copied start after behind_is.front (ap o.history same); all = λ e. cc; same = λ k e. cc; taken = λ k n e. cc }
  at_front after left left' how (HeadEnds.other_chart from theirs at reads differ) same = record { front = copied start after behind_is.front (ap o.history same); all = λ e. cc; same = λ k e. cc; taken = λ k n e. cc }
  at_front after left left' how (HeadEnds.gap from reads above) same = record { front = copied start after behind_is.front (ap o.history same); all = λ e. cc; same = λ k e. cc; taken = λ k n e. cc }

  pub shipped_copy : (after : F) (left left' : Option (List ℕ)) (how : FollowEnd) → IsShipped chart whole left → FollowEnds o chart start after left left' how → IsCopy o whole after how
  shipped_copy after left left' how s (FollowEnds.front is same) = at_front after left left' how is same
  shipped_copy after left left' how s (FollowEnds.behind b) =
      ended b.now b.middle s.lost s.behind (b.from + length b.es) _ (took b.now left b.middle b.from b.es s b.following) b.following.since left' b.bytes after how b.took b.stops

-- ---- a stream that came whole

end_nil : (left : Option (List ℕ)) (x : List ℕ) → left ≡ Some x → IsAtEnd left → x ≡ []
end_nil left x is end = subst IsAtEnd is end

-- a length and a text that stand there whole have no fault
text_stands : (at most : ℕ) (text part x rest : List ℕ) (left : Option (List ℕ)) (k : ℕ) → length text ≤ most → most < 2 ^ 32 → left ≡ Some x → part ++ x ≡ to_be_bytes w32 (length text) ++ (text ++ rest) → TextFault at most left part k → ⊥
text_stands at most text part x rest left k few small is joins (TextFault.cut_length short end) =
    let none : length x ≡ 0 = ap length (end_nil left x is end) in
    omega (arith, none, short, ap length joins, length-append part x, length-append text rest)
text_stands at most text part x rest left k few small is joins (TextFault.long n n_small part_is long) =
    let same = word_same n (length text) x (text ++ rest) n_small (omega (arith, few, small)) (ap (λ (l : List ℕ). l ++ x) (sym part_is) ∙ joins) in
    omega (arith, same.0, long, few)
text_stands at most text part x rest left k few small is joins (TextFault.cut_text n front part_is n_few short end) =
    let none : length x ≡ 0 = ap length (end_nil left x is end) in
    let same = word_same n (length text) (front ++ x) (text ++ rest) (omega (arith, n_few, small)) (omega (arith, few, small))
    (sym (append_assoc (to_be_bytes w32 n) front x) ∙ ap (λ (l : List ℕ). l ++ x) (sym part_is) ∙ joins) in
    omega (arith, none, short, same.0, ap length same.1, length-append front x, length-append text rest)

head_stands : (chart more bytes x : List ℕ) (from : ℕ) (left : Option (List ℕ)) (k : ℕ) → length chart ≤ 1048576 → from < 2 ^ 64 → left ≡ Some x → bytes ++ x ≡ head_of from chart ++ more → HeadFault left bytes k → ⊥
head_stands chart more bytes x from left k few small is joins (HeadFault.cut_from short end) =
    let none : length x ≡ 0 = ap length (end_nil left x is end) in
    omega (arith, none, short, ap length joins, length-append bytes x)
head_stands chart more bytes x from left k few small is joins (HeadFault.chart other part _ other_small bytes_are fault) =
    let behind : List ℕ = to_be_bytes w32 (length chart) ++ chart in
    let same = long_same other from (part ++ x) (behind ++ more) other_small small
    (sym (append_assoc (to_be_bytes w64 other) part x) ∙ ap (λ (l : List ℕ). l ++ x) (sym bytes_are) ∙ joins ∙ append_assoc (to_be_bytes w64 from) behind more) in
    let large : 1048576 < 2 ^ 32 = lit< tt in
    text_stands 8 1048576 chart part x more left k few large is (same.1 ∙ append_assoc (to_be_bytes w32 (length chart)) chart more) fault

read_again : (e : Entry) → HasFrame e → of_length (length (payload e)) (read_of 2 (payload e)) ≡ Some e
read_again e frame =
    ap (λ (l : List ℕ). of_length (length (payload e)) (read_of 2 l)) (sym (append-nil (payload e))) ∙ ap (of_length (length (payload e))) (reads_back 2 e [] frame.has.has (is_of_two e)) ∙ grind (arith, nat_tests)

record_stands : (later : List Entry) (bytes x rest : List ℕ) (left : Option (List ℕ)) (k : ℕ) → All HasFrame later → left ≡ Some x → bytes ++ x ≡ records_of later ++ 0 ∷ rest → RecordFault left bytes k → ⊥
record_stands later bytes x rest left k frames is joins (RecordFault.no_byte none end) =
    omega (arith, ap length none, ap length (end_nil left x is end), ap length joins, length-append bytes x, length-append (records_of later) (0 ∷ rest))
record_stands [] bytes x rest left k frames is joins (RecordFault.bad_byte byte bytes_are shut open_) =
    let whole : byte ∷ x ≡ 0 ∷ rest = ap (λ (l : List ℕ). l ++ x) (sym bytes_are) ∙ joins ∙ records_none (0 ∷ rest) in
    let zero_ : byte ≡ 0 = cc whole in
    shut zero_
record_stands (e ∷ es) bytes x rest left k frames is joins (RecordFault.bad_byte byte bytes_are shut open_) =
    let whole : byte ∷ x ≡ 1 ∷ (record_of e ++ (records_of es ++ 0 ∷ rest)) = ap (λ (l : List ℕ). l ++ x) (sym bytes_are) ∙ joins ∙ records_front e es (0 ∷ rest) in
    let one : byte ≡ 1 = cc whole in
    open_ one
record_stands [] bytes x rest left k frames is joins (RecordFault.text part _ bytes_are fault) =
    let whole : 1 ∷ (part ++ x) ≡ 0 ∷ rest = ap (λ (l : List ℕ). l ++ x) (sym bytes_are) ∙ joins ∙ records_none (0 ∷ rest) in
    cc whole
record_stands (e ∷ es) bytes x rest left k frames is joins (RecordFault.text part _ bytes_are fault) =
    let whole : 1 ∷ (part ++ x) ≡ 1 ∷ (record_of e ++ (records_of es ++ 0 ∷ rest)) = ap (λ (l : List ℕ). l ++ x) (sym bytes_are) ∙ joins ∙ records_front e es (0 ∷ rest) in
    let behind : part ++ x ≡ record_of e ++ (records_of es ++ 0 ∷ rest) = cc whole in
    let large : 65536 < 2 ^ 32 = lit< tt in
    text_stands 1 65536 (payload e) part x (records_of es ++ 0 ∷ rest) left k (All-head HasFrame e es frames).short large is (behind ∙ append_assoc (to_be_bytes w32 (length (payload e))) (payload e) (records_of es ++ 0 ∷ rest)) fault
record_stands [] bytes x rest left k frames is joins (RecordFault.no_payload text bytes_are few none) =
    let whole : 1 ∷ ((to_be_bytes w32 (length text) ++ text) ++ x) ≡ 0 ∷ rest = ap (λ (l : List ℕ). l ++ x) (sym bytes_are) ∙ joins ∙ records_none (0 ∷ rest) in
    cc whole
record_stands (e ∷ es) bytes x rest left k frames is joins (RecordFault.no_payload text bytes_are few none) =
    let more : List ℕ = records_of es ++ 0 ∷ rest in
    let frame = All-head HasFrame e es frames in
    let whole : 1 ∷ ((to_be_bytes w32 (length text) ++ text) ++ x) ≡ 1 ∷ (record_of e ++ more) = ap (λ (l : List ℕ). l ++ x) (sym bytes_are) ∙ joins ∙ records_front e es (0 ∷ rest) in
    let behind : (to_be_bytes w32 (length text) ++ text) ++ x ≡ record_of e ++ more = cc whole in
    let sizes = word_same (length text) (length (payload e)) (text ++ x) (payload e ++ more) (omega (arith, few)) frame.has.short
    (sym (append_assoc (to_be_bytes w32 (length text)) text x) ∙ behind ∙ append_assoc (to_be_bytes w32 (length (payload e))) (payload e) more) in
    let same = (split_same text x (payload e) more sizes.0 sizes.1).0 in
    let again : of_length (length (payload e)) (read_of 2 (payload e)) ≡ None = subst (λ (l : List ℕ). of_length (length l) (read_of 2 l) ≡ None) same none in
    cc (again, read_again e frame)

module _ {F : Type 0} (o : Office F) (chart : List ℕ) (start : F) (whole : List Entry) (behind_is : IsBehind o start whole) (few : length chart ≤ 1048576) where
  no_fault : (now : F) (middle : Option (List ℕ)) (lost behind : List ℕ) (place at : ℕ) (t : Took o whole now middle lost behind place) → lost ≡ [] → (left' : Option (List ℕ)) (bytes : List ℕ) (after : F) (how : FollowEnd) (offset : ℕ)
      → Consumes middle left' bytes → Stops o now place at bytes left' after how → how ≢ StreamFault offset
  no_fault now middle lost behind place at t all left' bytes after how offset took' (Stops.done is same) e = cc
  no_fault now middle lost behind place at t all left' bytes after how offset took' (Stops.read_fault part same) e = cc
  no_fault now middle lost behind place at t all left' bytes after how offset took' (Stops.memory part same) e = cc
  no_fault now middle lost behind place at t all left' bytes after how offset took' (Stops.fault k is same) e =
      let more = taken t.rest middle left' bytes t.left took' in
      let joins : bytes ++ more.0 ≡ records_of t.later ++ (0 ∷ behind) = sym more.2 ∙ sym (append-nil t.rest) ∙ ap (λ (l : List ℕ). t.rest ++ l) (sym all) ∙ t.joins in
      record_stands t.later bytes more.0 behind left' k t.frames more.1 joins is
  no_fault now middle lost behind place at t all left' bytes after how offset took' (Stops.forked x own frame stands differ same) e = cc
  no_fault now middle lost behind place at t all left' bytes after how offset took' (Stops.refused x n frame ends refuses same) e = cc
  no_fault now middle lost behind place at t all left' bytes after how offset took' (Stops.failed x frame ends fails) e = cc

  no_front_fault : (left left' : Option (List ℕ)) (how : FollowEnd) (s : IsShipped chart whole left) → s.lost ≡ [] → (offset : ℕ) → HeadEnds chart (length (o.history start)) left left' how → how ≢ StreamFault offset
  no_front_fault left left' how s all offset (HeadEnds.read_fault bytes took' part) e = cc
  no_front_fault left left' how s all offset (HeadEnds.memory bytes took' part) e = cc
  no_front_fault left left' how s all offset (HeadEnds.fault bytes k took' is) e =
      let first = taken s.given left left' bytes s.are took' in
      let more : List ℕ = (records_of (drop s.from whole) ++ 0 ∷ []) ++ s.behind in
      let joins : bytes ++ first.0 ≡ head_of s.from chart ++ more =
      sym first.2 ∙ sym (append-nil s.given) ∙ ap (λ (l : List ℕ). s.given ++ l) (sym all) ∙ s.joins ∙ append_assoc (head_of s.from chart) (records_of (drop s.from whole) ++ 0 ∷ []) s.behind in
      head_stands chart more bytes first.0 s.from left' k few s.small first.1 joins is
  no_front_fault left left' how s all offset (HeadEnds.other_chart from theirs at reads differ) e = cc
  no_front_fault left left' how s all offset (HeadEnds.gap from reads above) e = cc

  -- so it is followed without a fault of the stream
  pub shipped_whole : (after : F) (left left' : Option (List ℕ)) (how : FollowEnd) (s : IsShipped chart whole left) → s.lost ≡ [] → FollowEnds o chart start after left left' how → (offset : ℕ) → how ≢ StreamFault offset
  shipped_whole after left left' how s all (FollowEnds.front is same) offset = no_front_fault left left' how s all offset is
  shipped_whole after left left' how s all (FollowEnds.behind b) offset =
      no_fault b.now b.middle s.lost s.behind (b.from + length b.es) _ (took o chart start whole behind_is b.now left b.middle b.from b.es s b.following) all left' b.bytes after how offset b.took b.stops
