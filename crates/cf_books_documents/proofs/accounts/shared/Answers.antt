use Rattle.std.proofs.Common.{◌∙◌, ap, sym, true, false}
use Rattle.cf_books_documents.specs.Accounts.{part_of}
use Rattle.cf_books_documents.proofs.Agreed.{agreed_is}
use Rattle.cf_books_documents.proofs.Entering.{get-item}
use Rattle.cf_books_documents.proofs.accounts.shared.Goals as goal

pub returns-then-all_have : goal.returns-then-all_have
returns-then-all_have g c =
    agreed_is (λ i. part_of c.args.part (g.T.Accounted.account i)) c.args.items.now c.in_ok-get.field-0.now c.part_of-id.result c.all_have.result true (sym (get-item c.args.items.now 0 c.in_ok-get.field-0.now c.in_ok-get.ensures.lookup.3.0 c.in_ok-get.ensures.lookup.1))
    (c.part_of-id.ensures ∙ ap (part_of c.args.part) c.account.ensures) c.all_have.ensures c.if-all_have.true

pub returns-else-all_have : goal.returns-else-all_have
returns-else-all_have g c =
    agreed_is (λ i. part_of c.args.part (g.T.Accounted.account i)) c.args.items.now c.in_ok-get.field-0.now c.part_of-id.result c.all_have.result false (sym (get-item c.args.items.now 0 c.in_ok-get.field-0.now c.in_ok-get.ensures.lookup.3.0 c.in_ok-get.ensures.lookup.1))
    (c.part_of-id.ensures ∙ ap (part_of c.args.part) c.account.ensures) c.all_have.ensures c.if-all_have.false
