-- Laws of the heads of requests.
use Rattle.std.proofs.Common.{◌≡◌, ◌+◌, ◌<◌, ◌≤◌, ℕ, List, ◌++◌, length, take, drop, min, arith, sym, ap, ◌∙◌, subst, inr, length-append, length-take, length-drop}
use Rattle.cf_base.proofs.Common.{take-append-drop, take-append-le, take_all, length-map, lt_of_not-le, take-append_seam}
use Rattle.httparse.specs.Borrowed.{header_parts, AreFields}
use Rattle.httparse.specs.Grammar.{RequestHead, print_request, ReadsRequest, HasNoRequest, MayBecomeRequest}
use Rattle.httparse.specs.Spans.{name_and_value, RequestOverflows}
use Rattle.httparse.specs.declared.borrowed.Header.{Header}
use Rattle.httparse.proofs.GrammarLemmas.{request_prefix_free, ReadsRequest-append}
use Rattle.cf_http_heads.specs.Heads.{IsTooLong, IsNoHead, IsOpenHead, BeginsWithHead}
use Rattle.cf_http_heads.specs.declared.head.Heading.{Heading}

-- as many fields as headers
pub length_fields : (headers : List Header) (h : RequestHead) → AreFields headers h.fields → length h.fields ≡ length headers
length_fields headers h are = sym (length-map h.fields name_and_value) ∙ sym (ap length are) ∙ length-map headers header_parts

-- a head is no longer than the text that it begins
pub length_head : (text : List ℕ) (h : RequestHead) (rest : List ℕ) → ReadsRequest text h rest → length (print_request h) ≤ length text
length_head text h rest reads = let e : length text ≡ length (print_request h) + length rest = ap length reads.1 ∙ length-append (print_request h) rest in omega (arith, e)

-- a head with too many fields is the only head that the text can begin with
pub many_overflow : (text : List ℕ) (h : RequestHead) (rest : List ℕ) → ReadsRequest text h rest → 64 < length h.fields → RequestOverflows 64 text
many_overflow text h rest reads many more k q other =
    subst (λ (x : RequestHead). 64 < length x.fields) (request_prefix_free text more h k rest q reads other).0 many

-- a head within a front of the text is a head of the front
front_head : (front back : List ℕ) (h : RequestHead) (rest : List ℕ) → ReadsRequest (front ++ back) h rest → length (print_request h) ≤ length front
    → ReadsRequest front h (drop (length (print_request h)) front)
front_head front back h rest reads short =
    let n = length (print_request h) in (
      reads.0,
      sym (take-append-drop n front) ∙ ap (λ t. t ++ drop n front) (sym (take-append-le n front back short) ∙ ap (take n) reads.1 ∙ take-append_seam (print_request h) rest),
    )

-- no head in the first 16,384 bytes, and the text goes on
pub too_long : (front back : List ℕ) → length front ≡ 16384 → 0 < length back → HasNoRequest front → IsTooLong (front ++ back)
too_long front back n some none = record {
  long = let e = length-append front back in omega (arith, e, n, some);
  none = λ h rest reads. lt_of_not-le (λ short. none h _ (front_head front back h rest reads (omega (arith, short, n))));
}

-- what is left after a head is the text without so many bytes
pub reads_drop : (text : List ℕ) (h : RequestHead) (rest : List ℕ) → ReadsRequest text h rest → ReadsRequest text h (drop (length (print_request h)) text)
reads_drop text h rest reads =
    let n = length (print_request h) in
    (reads.0, sym (take-append-drop n text) ∙ ap (λ t. t ++ drop n text) (ap (take n) reads.1 ∙ take-append_seam (print_request h) rest))

-- a head at the front of a text stays there
pub begins_on : (front back : List ℕ) (heading : Heading) → BeginsWithHead front heading → BeginsWithHead (front ++ back) heading
begins_on front back heading b =
    let long = reads_drop (front ++ back) b.head (drop heading.length front ++ back) (ReadsRequest-append front b.head (drop heading.length front) back b.reads) in
    record {
      head = b.head;
      is_head = b.is_head;
      reads = subst (λ (x : Heading). ReadsRequest (front ++ back) b.head (drop x.length (front ++ back))) (sym b.asks) long;
      asks = b.asks;
    }

-- what the first 16,384 bytes of a text say of it, where they are no head yet
pub no_head_past : (text : List ℕ) (n : ℕ) → n ≡ min (length text) 16384 → 16384 < length text → HasNoRequest (take n text) → IsNoHead text
no_head_past text n e long none =
    subst IsNoHead (take-append-drop n text)
    (inr (too_long (take n text) (drop n text) (omega (arith, length-take n text, e, long)) (omega (arith, length-drop n text, e, long)) none))

pub open_whole : (text : List ℕ) (n : ℕ) → n ≡ min (length text) 16384 → length text ≤ 16384 → HasNoRequest (take n text) → MayBecomeRequest (take n text) → IsOpenHead text
open_whole text n e short none may =
    let whole : take n text ≡ text = take_all n text (omega (arith, e, short)) in
    record { short = short; not_yet = subst HasNoRequest whole none; may_become = subst MayBecomeRequest whole may }
