use Rattle.std.proofs.Common.{◌∙◌, sym}
use Rattle.cf_books_documents.proofs.Within.{within_more}
use Rattle.cf_books_documents.proofs.wanted.has_within.Goals as goal

pub loop-at-preserved : goal.loop-at-preserved
loop-at-preserved c =
    within_more c.args.part.now c.args.text.now c.loop-at.at c.loop-at-test.true (sym c.starts_with.ensures.value ∙ c.if-starts_with.false) ∙ c.loop-at.invariant
