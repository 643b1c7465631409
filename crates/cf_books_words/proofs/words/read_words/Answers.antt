use Rattle.std.proofs.Common.{◌≡◌, ◌∙◌, ◌⊎◌, inl, inr, ap, sym, subst, refl, true, [], ◌∷◌, map, string_bytes, Err}
use Rattle.clap.specs.Words.{fault_of, is_simple, is_simple_and_free, kind_of, matches_of, IsAmong, Kinds}
use Rattle.clap.specs.declared.error.kind.ErrorKind.{ErrorKind}
use Rattle.clap.specs.declared.error.kind.ErrorKind.TheVariants.{OutOfMemory}
use Rattle.cf_books_words.specs.declared.words.WordsRefused.{WordsRefused}
use Rattle.cf_books_words.specs.declared.words.WordsRefused.TheVariants.{BadWords, NoMemory}
use Rattle.cf_books_words.specs.CommandLine.{program}
use Rattle.cf_books_words.specs.Requests.{asked_in}
use Rattle.cf_books_words.specs.Parsed.{unless}
use Rattle.cf_books_words.specs.Words.{Asked, Gives, Read}
use Rattle.cf_books_words.proofs.words.read_words.Goals as goal

is_plain : is_simple_and_free program ≡ true
is_plain = refl

-- a failed parse refuses the words, unless memory ran out
refuses : (r : WordsRefused) (k : ErrorKind) (f : Kinds) (x : Read Asked) → (r ≡ NoMemory) ⊎ ((r ≡ BadWords) × (k ≡ OutOfMemory → ⊥)) → (k ≡ OutOfMemory) ⊎ IsAmong k f → Gives (Err r) (unless f x)
refuses r k f x (inl e) h = subst (λ w. Gives (Err w) (unless f x)) (sym e) tt
refuses r k f x (inr p) (inl m) = absurd (p.1 m)
refuses r k [] x (inr p) (inr h) = absurd h
refuses r k (j ∷ js) x (inr p) (inr h) = subst (λ w. Gives (Err w) (Err BadWords)) (sym p.0) refl

pub returns-in-Ok-try_get_matches_from-clause-request : goal.returns-in-Ok-try_get_matches_from-clause-request
returns-in-Ok-try_get_matches_from-clause-request c =
    let words = map string_bytes c.args.words.now in
    let told = c.in-Ok.ensures in
    let parse = c.in-Ok-try_get_matches_from.ensures in
    let none : fault_of program words ≡ [] = sym (ap (λ a. fault_of a words) told) ∙ parse.kinds (ap is_simple_and_free told ∙ is_plain) in
    let met = (parse.matches (ap is_simple told ∙ refl)).0 ∙ ap (λ a. matches_of a words) told in
    subst (Gives c.request_found.result) (ap asked_in met ∙ ap (λ f. unless f (asked_in (matches_of program words))) (sym none)) c.request_found.ensures.request

pub returns-in-Err-try_get_matches_from-clause-request : goal.returns-in-Err-try_get_matches_from-clause-request
returns-in-Err-try_get_matches_from-clause-request c =
    let words = map string_bytes c.args.words.now in
    let told = c.in-Ok.ensures in
    let kinds = c.in-Err-try_get_matches_from.ensures.kinds (ap is_simple_and_free told ∙ is_plain) in
    let kind = kind_of c.in-Err-try_get_matches_from.error in
    refuses c.refusal_of.result kind (fault_of program words) (asked_in (matches_of program words)) c.refusal_of.ensures
    (subst (λ a. (kind ≡ OutOfMemory) ⊎ IsAmong kind (fault_of a words)) told kinds)
