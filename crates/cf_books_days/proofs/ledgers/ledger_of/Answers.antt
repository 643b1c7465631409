use Rattle.std.proofs.Common.{◌≡◌, ◌<◌, ◌^◌, ◌∙◌, ◌++◌, [], List, ap, sym, subst}
use Rattle.cf_model.specs.Common.{Gov as GovBasis}
use Rattle.cf_calls.specs.declared.read.Basis.TheVariants.{Fund as FundBasis}
use Rattle.cf_ledger.specs.declared.post.Post.{Post}
use Rattle.cf_ledger.specs.Books.{posts_of}
use Rattle.cf_ledger.specs.Posts.{sizes}
use Rattle.cf_books_days.proofs.ledgers.ledger_of.Goals as goal

pub add-requires-clause-small : goal.add-requires-clause-small
add-requires-clause-small c =
    subst (λ (ps : List Post). sizes (ps ++ c.args.fund.now) < 2 ^ 127) (sym (c.reserve.ensures.same FundBasis ∙ c.new-ledger.ensures FundBasis)) c.requires.fund_fits

pub add-requires-2-clause-small : goal.add-requires-2-clause-small
add-requires-2-clause-small c =
    let none : posts_of c.reserve-2.new.self GovBasis ≡ [] = c.reserve-2.ensures.same GovBasis ∙ c.add.ensures.other ∙ c.reserve.ensures.same GovBasis ∙ c.new-ledger.ensures GovBasis in
    subst (λ (ps : List Post). sizes (ps ++ c.args.gov.now) < 2 ^ 127) (sym none) c.requires.gov_fits

pub returns-clause-fund : goal.returns-clause-fund
returns-clause-fund c =
    c.add-2.ensures.other ∙ c.reserve-2.ensures.same FundBasis ∙ c.add.ensures.added
    ∙ ap (λ (ps : List Post). ps ++ c.args.fund.now) (c.reserve.ensures.same FundBasis ∙ c.new-ledger.ensures FundBasis)

pub returns-clause-gov : goal.returns-clause-gov
returns-clause-gov c =
    c.add-2.ensures.added
    ∙ ap (λ (ps : List Post). ps ++ c.args.gov.now) (c.reserve-2.ensures.same GovBasis ∙ c.add.ensures.other ∙ c.reserve.ensures.same GovBasis ∙ c.new-ledger.ensures GovBasis)
