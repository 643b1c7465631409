use Rattle.cf_books_year.proofs.Forms.{forms}
use Rattle.cf_books_year.proofs.paid.paid_text.Goals as goal

pub text_of-requires-clause-forms : goal.text_of-requires-clause-forms
text_of-requires-clause-forms c =
    let rest = c.args.rest.now in
    rw c.entries.ensures.value (forms rest.plan rest.entries c.entries.ensures.legal)
