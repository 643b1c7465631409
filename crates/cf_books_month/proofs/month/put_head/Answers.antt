use Rattle.cf_books_month.proofs.month.put_head.Goals as goal

pub returns : goal.returns
returns c = rw c.as_slice.ensures at c.put_names.ensures
