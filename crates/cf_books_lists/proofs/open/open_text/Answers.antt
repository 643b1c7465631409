use Rattle.cf_model_articulation.proofs.Articulated.{articulates}
use Rattle.cf_model_articulation.proofs.ReadCharts.{read_chart}
use Rattle.cf_model.proofs.Common.{is_lawful}
use Rattle.cf_books_lists.proofs.OpenDues.{dues_are_asked}
use Rattle.cf_books_lists.proofs.OpenSums.{open_adds_up}
use Rattle.cf_books_lists.proofs.open.open_text.Goals as goal

pub returns-clause-sums : goal.returns-clause-sums
returns-clause-sums c =
    let plan = c.args.rest.now.plan in
    let history = c.args.rest.now.entries in
    let legal = c.entries-legal.ensures.legal in
    λ bytes read.
    let is = read_chart bytes plan read in
    let law = articulates plan history 0 is.whole is.own legal in
    open_adds_up plan history legal (is_lawful plan history is.whole legal).reconciled.sound.numbers law.bills law.vouchers

pub returns-clause-dues : goal.returns-clause-dues
returns-clause-dues c = dues_are_asked c.args.rest.now.plan c.args.rest.now.entries c.entries-legal.ensures.legal
