use Rattle.std.proofs.Common.{◌==◌}
use Rattle.cf_turns.proofs.tests.a_tie_follows_the_list.Given as goal

-- the stripe's ledger, and that the calls of desk 1 touch the stripe
abbrev pub ghosts-follow-S-Ledger : goal.ghosts-follow-S-Ledger
ghosts-follow-S-Ledger a = record { name = a.blank.name; parts = a.blank.parts }

abbrev pub ghosts-follow-S-Stripe : goal.ghosts-follow-S-Stripe
ghosts-follow-S-Stripe a = record { all = a.blank.parts; touches = λ e. e.change.desk == 1 }
