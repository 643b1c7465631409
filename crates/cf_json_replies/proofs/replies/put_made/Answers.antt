use Rattle.cf_json_replies.proofs.replies.put_made.Goals as goal

pub returns-in-Paid-clause-text : goal.returns-in-Paid-clause-text
returns-in-Paid-clause-text c = rw c.in-Paid.is c.put_object-in-Paid.ensures.text
