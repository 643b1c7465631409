use Rattle.std.proofs.Common.{◌≡◌, ◌++◌, drop, map}
use Rattle.cf_post.specs.Accounts.{current_of}
use Rattle.cf_books_lists.proofs.accounts.put_functions.Given as goal

-- what was appended, and what is still to come
abbrev pub invariant-loop-function : goal.invariant-loop-function
invariant-loop-function l = l.out.items ++ map (λ x. current_of x.id) (drop l.function-index l.functions) ≡ l.initial.out.items ++ map (λ x. current_of x.id) l.functions
