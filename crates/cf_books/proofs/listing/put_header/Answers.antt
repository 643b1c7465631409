use Rattle.cf_books.proofs.listing.put_header.Goals as goal

pub returns : goal.returns
returns c = rw c.as_slice.ensures at c.put_names.ensures
