-- Parts of a stream, one after another.
use Rattle.std.proofs.Common.{◌≡◌, ◌≢◌, ◌⊎◌, inl, inr, ℕ, ◌+◌, ◌<◌, ◌≤◌, ◌^◌, List, [], ◌∷◌, ◌++◌, length, length-append, refl, sym, subst, arith, Option, w32, w64, MatchOption, IfSome, Some, None}
use Rattle.cf_base.proofs.Common.{to_be_bytes, Consumes, IsAtEnd, Consumes-trans}
use Rattle.cf_base_lines.specs.Reads.{IsRead}
use Rattle.cf_journal_stream.specs.Parts.{IsWhy, NoFault, ReadsNone}
use Rattle.cf_journal_stream.specs.Readings.{CutBefore, ReadsLong}
use Rattle.cf_journal_stream.specs.Streams.{HeadFault, HeadPart, PiecePart, RecordFault, RecordPart, TextFault, TextPart, most_chart, most_payload}
use Rattle.cf_journal_stream.specs.declared.reader.Unread.{Unread}
use Rattle.cf_journal_stream.specs.declared.reader.Unread.TheVariants as unread

-- ---- parts that weren't read whole

-- a piece of so many bytes, behind those of it that were taken before
pub piece_behind : (most more : ℕ) (a b c : Option (List ℕ)) (front : List ℕ) (why : Unread) → length front + more ≤ most → Consumes a b front → ReadsNone (PiecePart more) NoFault b c why → ReadsNone (PiecePart most) NoFault a c why
piece_behind most more a b c front why fits took none = record { bytes = front ++ none.bytes; took = Consumes-trans a b c front none.bytes took none.took; is = longer why none.is }
  where
    longer : (w : Unread) → IsWhy (λ over. PiecePart more over none.bytes) (λ k. ⊥) w → IsWhy (λ over. PiecePart most over (front ++ none.bytes)) (λ k. ⊥) w
    longer unread.Source is = omega (arith, is, fits, length-append front none.bytes)
    longer unread.NoMemory is = omega (arith, is, fits, length-append front none.bytes)
    longer (unread.Fault k) is = is

-- the text behind its length
pub text_behind : (at most n : ℕ) (a b c : Option (List ℕ)) (why : Unread) → n ≤ most → Consumes a b (to_be_bytes w32 n) → ReadsNone (PiecePart n) NoFault b c why → ReadsNone (TextPart most) (TextFault at most) a c why
text_behind at most n a b c why few took none = record {
  bytes = to_be_bytes w32 n ++ none.bytes;
  took = Consumes-trans a b c (to_be_bytes w32 n) none.bytes took none.took;
  is = why_is why none.is;
}
  where
    why_is : (w : Unread) → IsWhy (λ over. PiecePart n over none.bytes) (λ k. ⊥) w → IsWhy (λ over. TextPart most over (to_be_bytes w32 n ++ none.bytes)) (TextFault at most c (to_be_bytes w32 n ++ none.bytes)) w
    why_is unread.Source is = TextPart.in_text n none.bytes few refl is
    why_is unread.NoMemory is = TextPart.in_text n none.bytes few refl is
    why_is (unread.Fault k) is = absurd is

-- ---- a length and so many bytes

pub text_cut : (at most : ℕ) (a b : Option (List ℕ)) → CutBefore 4 a b → ReadsNone (TextPart most) (TextFault at most) a b (unread.Fault at)
text_cut at most a b cut = record { bytes = cut.part; took = cut.took; is = TextFault.cut_length cut.short cut.end }

pub text_long : (at most n : ℕ) (a b : Option (List ℕ)) → n < 2 ^ 32 → Consumes a b (to_be_bytes w32 n) → most < n → ReadsNone (TextPart most) (TextFault at most) a b (unread.Fault at)
text_long at most n a b small took long = record { bytes = to_be_bytes w32 n; took = took; is = TextFault.long n small refl long }

at_end : (n : ℕ) (left : Option (List ℕ)) (len : ℕ) → IsAtEnd left ⊎ (len ≡ n) → len < n → IsAtEnd left
at_end n left len (inl end) short = end
at_end n left len (inr all) short = absurd (omega arith)

pub text_short : (at most n : ℕ) (a b c : Option (List ℕ)) (piece : List ℕ) → Consumes a b (to_be_bytes w32 n) → IsRead n b c piece → n ≤ most → length piece < n → ReadsNone (TextPart most) (TextFault at most) a c (unread.Fault (at + 4))
text_short at most n a b c piece took read few short = record {
  bytes = to_be_bytes w32 n ++ piece;
  took = Consumes-trans a b c (to_be_bytes w32 n) piece took read.took;
  is = TextFault.cut_text n piece refl few short (at_end n c (length piece) read.whole short);
}

-- ---- FROM and the chart

pub long_read : (a b : Option (List ℕ)) (piece : List ℕ) (o : Option ℕ) → IsRead 8 a b piece → MatchOption o (length piece < 8) (λ n. to_be_bytes w64 n ≡ piece) → IfSome o (λ n. n < 2 ^ 64) → ReadsLong a b o
long_read a b piece None read short small = record { part = piece; took = read.took; short = short; end = at_end 8 b (length piece) read.whole short }
long_read a b piece (Some n) read is small = (small, subst (Consumes a b) (sym is) read.took)

pub head_cut : (a b : Option (List ℕ)) → CutBefore 8 a b → ReadsNone HeadPart HeadFault a b (unread.Fault 0)
head_cut a b cut = record { bytes = cut.part; took = cut.took; is = HeadFault.cut_from cut.short cut.end }

head_why : (from : ℕ) (left : Option (List ℕ)) (part : List ℕ) (why : Unread) → from < 2 ^ 64 → IsWhy (λ over. TextPart most_chart over part) (TextFault 8 most_chart left part) why
    → IsWhy (λ over. HeadPart over (to_be_bytes w64 from ++ part)) (HeadFault left (to_be_bytes w64 from ++ part)) why
head_why from left part unread.Source small is = HeadPart.in_chart from part refl is
head_why from left part unread.NoMemory small is = HeadPart.in_chart from part refl is
head_why from left part (unread.Fault k) small is = HeadFault.chart from part k small refl is

pub head_text : (from : ℕ) (a b c : Option (List ℕ)) (why : Unread) → from < 2 ^ 64 → Consumes a b (to_be_bytes w64 from) → ReadsNone (TextPart most_chart) (TextFault 8 most_chart) b c why → ReadsNone HeadPart HeadFault a c why
head_text from a b c why small took none = record {
  bytes = to_be_bytes w64 from ++ none.bytes;
  took = Consumes-trans a b c (to_be_bytes w64 from) none.bytes took none.took;
  is = head_why from c none.bytes why small none.is;
}

-- ---- records

pub frame_none : (a b : Option (List ℕ)) → CutBefore 1 a b → ReadsNone RecordPart RecordFault a b (unread.Fault 0)
frame_none a b cut = record { bytes = cut.part; took = cut.took; is = RecordFault.no_byte (empty cut.part cut.short) cut.end }
  where
    empty : (part : List ℕ) → length part < 1 → part ≡ []
    empty [] short = refl
    empty (x ∷ xs) short = absurd (omega arith)

pub frame_bad : (byte : ℕ) (a b : Option (List ℕ)) → Consumes a b (byte ∷ []) → byte ≢ 0 → byte ≢ 1 → ReadsNone RecordPart RecordFault a b (unread.Fault 0)
frame_bad byte a b took open_ shut = record { bytes = byte ∷ []; took = took; is = RecordFault.bad_byte byte refl open_ shut }

frame_why : (left : Option (List ℕ)) (part : List ℕ) (why : Unread) → IsWhy (λ over. TextPart most_payload over part) (TextFault 1 most_payload left part) why → IsWhy (λ over. RecordPart over (1 ∷ part)) (RecordFault left (1 ∷ part)) why
frame_why left part unread.Source is = RecordPart.in_payload part refl is
frame_why left part unread.NoMemory is = RecordPart.in_payload part refl is
frame_why left part (unread.Fault k) is = RecordFault.text part k refl is

pub frame_text : (byte : ℕ) (a b c : Option (List ℕ)) (why : Unread) → byte ≡ 1 → Consumes a b (byte ∷ []) → ReadsNone (TextPart most_payload) (TextFault 1 most_payload) b c why → ReadsNone RecordPart RecordFault a c why
frame_text byte a b c why one took none = record {
  bytes = 1 ∷ none.bytes;
  took = Consumes-trans a b c (1 ∷ []) none.bytes (subst (λ (x : ℕ). Consumes a b (x ∷ [])) one took) none.took;
  is = frame_why c none.bytes why none.is;
}
