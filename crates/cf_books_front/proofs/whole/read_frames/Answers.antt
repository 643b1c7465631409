use Rattle.std.proofs.Common.{◌∙◌, List, ℕ, refl, subst}
use Rattle.cf_disk.specs.MemoryView.{image_held}
use Rattle.cf_journal.specs.Journal.{version_of}
use Rattle.cf_journal.specs.Layout.{IsAtRest}
use Rattle.cf_books_front.proofs.whole.read_frames.Goals as goal

pub returns-in-Ok-clause-lies : goal.returns-in-Ok-clause-lies
returns-in-Ok-clause-lies c =
    let opened = c.in-Ok.field-0 in
    let settled = c.in-Ok.ensures.settled in
    let version = version_of opened.journal in
    record {
      version = version;
      valid = settled.valid;
      rest = subst (λ (image : List ℕ). IsAtRest version opened.bytes.items opened.entries.items image) (c.in-Ok.ensures.content refl ∙ c.in_ok-disk.ensures.0)
          (settled.images refl c.open.new.disk.bytes.items (image_held c.open.new.disk));
    }
