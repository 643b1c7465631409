use Rattle.std.proofs.Common.{◌≡◌, ◌++◌, drop}
use Rattle.cf_books_grants.specs.Documents.{grants_text}
use Rattle.cf_books_grants.proofs.document.put_grants.Given as goal

-- what was appended, and what is still to come
abbrev pub invariant-loop-grant : goal.invariant-loop-grant
invariant-loop-grant l = l.out.items ++ grants_text (drop l.grant-index l.grants) ≡ l.initial.out.items ++ grants_text l.grants
