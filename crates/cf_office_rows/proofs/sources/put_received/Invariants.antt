use Rattle.std.proofs.Common.{◌≡◌, ◌++◌, drop}
use Rattle.cf_office_rows.specs.Entries.{received_rows}
use Rattle.cf_office_rows.specs.Rows.{kept}
use Rattle.cf_office_rows.proofs.sources.put_received.Given as goal

-- what was added, and what is still to come
abbrev pub invariant-loop-post : goal.invariant-loop-post
invariant-loop-post l =
    l.out.items ++ kept (received_rows l.place l.bill (drop l.post-index l.posts))
    ≡ l.initial.out.items ++ kept (received_rows l.place l.bill l.posts)
