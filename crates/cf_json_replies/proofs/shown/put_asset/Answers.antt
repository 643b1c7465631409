use Rattle.cf_json_replies.proofs.shown.put_asset.Goals as goal

pub returns : goal.returns
returns c = rw (← c.asset_word.ensures.value) c.put_object.ensures.text
