use Rattle.std.proofs.Common.{◌+◌, get_or, set, ap, ◌∙◌, arith}
use Rattle.cf_assets.proofs.Charged.{adds_at}
use Rattle.cf_assets.proofs.charges.add_to.Goals as goal

pub returns-in-Some-clause-adds : goal.returns-in-Some-clause-adds
returns-in-Some-clause-adds c k d l =
    ap (λ n. get_or (set c.args.sums.now c.in-Some.place (get_or c.args.sums.now c.in-Some.place 0 + n)) k 0) c.from.ensures
    ∙ adds_at c.args.functions.now c.args.id c.in-Some.place c.args.amount c.args.sums.now c.requires.rising c.in-Some.ensures (omega (arith, c.in-Some.ensures.within, c.requires.few, c.fits-sums)) k d l
