use Rattle.std.proofs.Common.{◌≡◌}
use Rattle.cf_ledger.specs.Books.{KeepsPlaces}
use Rattle.cf_ledger.proofs.Stands.{HasFirst}
use Rattle.cf_ledger.proofs.book.Book.reserve.Given as goal

abbrev pub invariant-loop-post : goal.invariant-loop-post
invariant-loop-post l = record {
  reserved : HasFirst l.self l.posts l.post-index;
  keeps : KeepsPlaces l.initial.self l.self;
  same : l.self.posts ≡ l.initial.self.posts;
}
