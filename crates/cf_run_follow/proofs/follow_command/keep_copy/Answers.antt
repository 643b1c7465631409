use Rattle.cf_follow.specs.Following.{failed_in}
use Rattle.cf_run_status.specs.Devices.{device}
use Rattle.cf_run_follow.proofs.Admitted.{reached_since}
use Rattle.cf_run_follow.proofs.Following.{behind_of}
use Rattle.cf_run_follow.proofs.follow_command.keep_copy.Goals as goal

pub returns-clause-copied : goal.returns-clause-copied
returns-clause-copied g c =
    let d = device g.D.Disk.tells g.D.Disk.content g.D.Disk.is_image g.D.Disk.moment g.D.Disk.was_image g.D.Disk.faults in
    let said = rw c.new-copy.ensures at c.follow-how.ensures in
    let last = c.follow-how.new.follower in (
      last,
      record {
        ends = said.ends;
        copies = λ whole on shipped. said.copies whole (behind_of d c.args.book whole c.requires.clear on) shipped;
        unfaulted = λ whole on s lost short offset. said.whole whole (behind_of d c.args.book whole c.requires.clear on) s lost short offset;
        still = said.still;
        since = reached_since d c.args.book last (failed_in said.ends) c.requires.clear (said.since said.ends);
        disk = rw (← c.into_book-book.ensures) c.close.ensures.disk;
        sound = rw (← c.into_book-book.ensures) c.close.ensures.sound;
        closed = rw (← c.into_book-book.ensures) c.close.ensures.closed;
        articulates = rw (← c.into_book-book.ensures) c.close.ensures.articulates;
        images = rw (← c.into_book-book.ensures) c.close.ensures.images;
        doubt_sound = rw (← c.into_book-book.ensures) c.close.ensures.doubt_sound;
      },
      rw (← c.into_book-book.ensures) c.len-count.ensures,
    )
