use Rattle.cf_books_documents.proofs.text.put_head.Goals as goal

pub returns : goal.returns
returns c = rw c.as_slice.ensures at c.put_names.ensures
