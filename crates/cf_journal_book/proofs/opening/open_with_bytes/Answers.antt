use Rattle.std.proofs.Common.{refl, sym, subst}
use Rattle.cf_journal_book.specs.Openings.{OpensBook}
use Rattle.cf_journal_book.proofs.Opened.{ok_quiet}
use Rattle.cf_journal_book.proofs.opening.open_with_bytes.Goals as goal

pub returns-in-Ok-clause-ok : goal.returns-in-Ok-clause-ok
returns-in-Ok-clause-ok g c =
    let d = g.D.Disk in
    let opened = c.in-Ok.ensures in
    subst (OpensBook d.tells d.content d.is_image d.moment d.was_image d.faults c.args.disk) (sym c.of.ensures) (record {
      recovers = opened.answer;
      clear = refl;
      reads = opened.content;
      durable = opened.durable;
      any_moment = opened.any_moment;
      quiet = ok_quiet (c.in-Ok.office, c.in-Ok.journal, c.in-Ok.bytes) _ _ _ opened.cause;
    })
