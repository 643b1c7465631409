use Rattle.cf_books_lists.proofs.statement.put_activities_head.Goals as goal

pub returns : goal.returns
returns c = rw c.as_slice.ensures at c.put_names.ensures
