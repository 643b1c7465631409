use Rattle.cf_json_replies.proofs.refusals.put_document_state.Goals as goal

pub returns-clause-text : goal.returns-clause-text
returns-clause-text c = rw (c.from.ensures, c.number.ensures.value, c.refusal_word.ensures.value, c.document_word.ensures.value, c.state_word.ensures.value) at c.put_object.ensures.text
