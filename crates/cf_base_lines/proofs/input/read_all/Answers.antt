use Rattle.std.proofs.Common.{arith, rules, refl, inr, ◌≡◌, ◌∙◌, ℕ, subst}
use Rattle.cf_base.proofs.Common.{Consumes-nil}
use Rattle.cf_base.specs.Common.{Rose}
use Rattle.cf_base_lines.proofs.Chunks.{took_more, at_end, same_error}
use Rattle.cf_base_lines.specs.declared.input.Unread.TheVariants.{Fault, NoMemory}
use Rattle.cf_base_lines.proofs.input.read_all.Goals as goal

pub loop-source-init : goal.loop-source-init
loop-source-init g c = record {
  took = rw c.new-bytes.ensures.items (Consumes-nil (g.S.Source.left c.args.source.now));
  within = omega (arith, c.new-bytes.ensures.len);
  chunk = omega (arith, c.in-Ok.ensures.len);
  quiet = refl;
}

pub returns-in-Ok-eq0-clause-ok : goal.returns-in-Ok-eq0-clause-ok
returns-in-Ok-eq0-clause-ok g c =
    let none : c.in-Ok-eq0.field-0 ≡ 0 = search rules in
    at_end c.args.most (g.S.Source.left c.args.source.now) (g.S.Source.left c.loop-source.source) (g.S.Source.left c.take_some.new.source) c.loop-source.bytes.items c.take_some.new.bytes.items c.in-Ok-eq0.field-0
    c.loop-source.invariant.took c.in-Ok-eq0.ensures.ok (omega (arith, c.take_some.ensures.within, c.take_some.new.bytes.ok.0)) none

pub loop-source-preserved : goal.loop-source-preserved
loop-source-preserved g c = record {
  took = took_more (g.S.Source.left c.args.source.now) (g.S.Source.left c.loop-source.source) (g.S.Source.left c.take_some.new.source) c.loop-source.bytes.items c.take_some.new.bytes.items c.in-Ok-take_some.field-0
      c.loop-source.invariant.took c.in-Ok-take_some.ensures.ok;
  within = c.take_some.ensures.within;
  chunk = search rules;
  quiet = c.in-Ok-take_some.ensures.quiet ∙ c.loop-source.invariant.quiet;
}

pub returns-in-Ok-eq0-clause-quiet : goal.returns-in-Ok-eq0-clause-quiet
returns-in-Ok-eq0-clause-quiet g c = c.in-Ok-eq0.ensures.quiet ∙ c.loop-source.invariant.quiet

pub returns-in-Err-clause-fault : goal.returns-in-Err-clause-fault
returns-in-Err-clause-fault g c = λ e.
    subst (λ (n : ℕ). Rose n (g.S.Source.faults c.take_some.new.source)) c.loop-source.invariant.quiet (c.take_some.ensures.fault (c.in-Err.is ∙ same_error c.in-Err.unread Fault e))

pub returns-in-Err-clause-memory : goal.returns-in-Err-clause-memory
returns-in-Err-clause-memory g c = λ e.
    c.take_some.ensures.memory (c.in-Err.is ∙ same_error c.in-Err.unread NoMemory e) ∙ c.loop-source.invariant.quiet

pub returns-clause-quiet : goal.returns-clause-quiet
returns-clause-quiet g c = c.loop-source.invariant.quiet

pub returns-clause-ok : goal.returns-clause-ok
returns-clause-ok g c = record {
  took = c.loop-source.invariant.took;
  within = omega (arith, c.loop-source.invariant.within, c.loop-source.bytes.ok.0);
  whole = inr (omega (arith, c.loop-source.invariant.within, c.loop-source.bytes.ok.0, c.loop-source-test.false, c.len.ensures));
}
