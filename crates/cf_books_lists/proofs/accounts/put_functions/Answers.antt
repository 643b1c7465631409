use Rattle.std.proofs.Common.{rules}
use Rattle.cf_model.specs.Common.{Function}
use Rattle.cf_post.specs.Accounts.{current_of}
use Rattle.cf_books_lists.proofs.Next.{next_mapped}
use Rattle.cf_books_lists.proofs.accounts.put_functions.Goals as goal

pub loop-function-preserved : goal.loop-function-preserved
loop-function-preserved c =
    next_mapped (λ (x : Function). current_of x.id) c.args.functions.now c.loop-function.function-index c.function-item.result c.loop-function.out.items c.push.new.self.items _
    c.loop-function-test.true c.function-item.is (search rules) c.loop-function.invariant
