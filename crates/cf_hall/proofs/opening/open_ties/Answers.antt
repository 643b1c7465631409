use Rattle.cf_hall_names.proofs.Eight.{eight}
use Rattle.cf_hall.proofs.opening.open_ties.Goals as goal

pub returns-clause-counts : goal.returns-clause-counts
returns-clause-counts g c =
    eight _ c.open_tie-first_count.ensures.count
    c.open_tie-second_count.ensures.count
    c.open_tie-third_count.ensures.count
    c.open_tie-fourth_count.ensures.count
    c.open_tie-fifth_count.ensures.count
    c.open_tie-sixth_count.ensures.count
    c.open_tie-seventh_count.ensures.count
    c.open_tie-eighth_count.ensures.count

pub returns-clause-ties : goal.returns-clause-ties
returns-clause-ties g c =
    eight _ c.open_tie-first_count.ensures.tie
    c.open_tie-second_count.ensures.tie
    c.open_tie-third_count.ensures.tie
    c.open_tie-fourth_count.ensures.tie
    c.open_tie-fifth_count.ensures.tie
    c.open_tie-sixth_count.ensures.tie
    c.open_tie-seventh_count.ensures.tie
    c.open_tie-eighth_count.ensures.tie
