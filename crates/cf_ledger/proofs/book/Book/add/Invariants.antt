use Rattle.std.proofs.Common.{◌≡◌, ◌++◌, take}
use Rattle.cf_ledger.specs.Books.{KeepsPlaces}
use Rattle.cf_ledger.proofs.book.Book.add.Given as goal

abbrev pub invariant-loop-post : goal.invariant-loop-post
invariant-loop-post l = record {
  added : l.self.posts ≡ l.initial.self.posts ++ take l.post-index l.posts;
  keeps : KeepsPlaces l.initial.self l.self;
}
