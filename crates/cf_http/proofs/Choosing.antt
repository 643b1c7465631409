-- What the bytes of a link decide.
use Rattle.std.proofs.Common.{◌≡◌, ◌⊎◌, ℕ, List, [], ◌∷◌, ◌++◌, drop, get_or, length, Result, Ok, Err, inl, inr, arith, sym, ap, refl, ◌∙◌, append_assoc}
use Rattle.httparse.specs.Grammar.{RequestHead, print_request, ReadsRequest, EndsInTarget}
use Rattle.httparse.proofs.GrammarLemmas.{request_unique}
use Rattle.cf_http_heads.specs.declared.fields.Refusal.{Refusal}
use Rattle.cf_http_heads.specs.Heads.{heading_of}
use Rattle.cf_http.specs.Talk.{Message, BeginsWith}
use Rattle.cf_http.specs.Laws.{EndsPastFields, OnlyTwoChoices, OneRequest}

pub only_two_choices : OnlyTwoChoices
only_two_choices text (inr long) still = let a = long.long in let b = still.short in absurd (omega (arith, a, b))
only_two_choices text (inl over) still = by_may still.may_become
  where
    by_may : ((more : List ℕ) × (h : RequestHead) × ReadsRequest (text ++ more) h []) ⊎ EndsInTarget text → EndsInTarget text ⊎ EndsPastFields text
    by_may (inl (more, h, reads)) = inr (more, h, reads, over more h [] reads)
    by_may (inr ends) = inl ends

abbrev size_of : Result ℕ Refusal → ℕ
size_of (Ok n) = n
size_of (Err e) = 0

-- two lists that begin alike, where the fronts are as long
fronts : (a b x y : List ℕ) → length a ≡ length b → a ++ x ≡ b ++ y → (a ≡ b) × (x ≡ y)
fronts [] [] x y l e = (refl, e)
fronts [] (b ∷ bs) x y l e = absurd (omega (arith, l))
fronts (a ∷ xs) [] x y l e = absurd (omega (arith, l))
fronts (a ∷ xs) (b ∷ ys) x y l e =
    let rest = fronts xs ys x y (omega (arith, l)) (ap (drop 1) e) in
    (ap (λ k. k ∷ xs) (ap (λ t. get_or t 0 a) e) ∙ ap (λ t. b ∷ t) rest.0, rest.1)

abbrev message : RequestHead → List ℕ → Message
message head body = record { head = head; body = body }

reads_of : (text : List ℕ) (m : Message) (b : BeginsWith text m) → ReadsRequest text m.head (m.body ++ b.rest)
reads_of text m b = (b.is_message.head.grammar, b.joins ∙ append_assoc (print_request m.head) m.body b.rest)

pub one_request : OneRequest
one_request text m n a b =
    let same = request_unique text m.head n.head (m.body ++ a.rest) (n.body ++ b.rest) (reads_of text m a) (reads_of text n b) in
    let size : length m.body ≡ length n.body =
    ap size_of (sym a.is_message.body ∙ ap (λ h. (heading_of h).body) same.0 ∙ b.is_message.body) in
    let parts = fronts m.body n.body a.rest b.rest size same.1 in
    (ap (λ h. message h m.body) same.0 ∙ ap (message n.head) parts.0, parts.1)
