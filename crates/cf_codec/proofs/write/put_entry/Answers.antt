use Rattle.cf_codec.proofs.EntriesExact.{short_drawn}
use Rattle.cf_codec.proofs.write.put_entry.Goals as goal

pub put_drawn-requires-clause-payment : goal.put_drawn-requires-clause-payment
put_drawn-requires-clause-payment c =
    let entry = c.args.e.now in
    rw c.draws.ensures (short_drawn entry.change.act entry.drawn c.requires.form.payment)
