use Rattle.cf_top.proofs.Generating.{generate_printed}
use Rattle.cf_top.proofs.generate_command.run_generate.Goals as goal

pub returns-clause-ends : goal.returns-clause-ends
returns-clause-ends g c =
    generate_printed c.args.n (g.O.Sink.held c.args.out.now) (g.O.Sink.held c.print.new.out) c.run_lines.result c.print.result c.run_lines.ensures c.print.ensures.prints c.print.ensures.none
