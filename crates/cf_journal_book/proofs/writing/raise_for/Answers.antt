use Rattle.cf_journal.specs.Layout.{RecoversTo}
use Rattle.cf_journal_book.proofs.Keeping.{at_rest}
use Rattle.cf_journal_book.proofs.writing.raise_for.Goals as goal

pub returns-then-has-clause-any_moment : goal.returns-then-has-clause-any_moment
returns-then-has-clause-any_moment g c =
    let d = g.D.Disk in
    λ t chart h settled. at_rest d.moment d.was_image c.args.disk.now (RecoversTo chart h) (λ image was. (settled.images t image (g.met.D.Disk.only_now c.args.disk.now image was)).recovers)
