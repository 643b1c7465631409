use Rattle.std.proofs.Common.{arith, ◌≡◌, ◌<◌, ◌+◌, ◌∷◌, ◌++◌, ◌∙◌, ap, subst, length, drop, append_assoc, flat_map, All}
use Rattle.cf_base.proofs.Common.{take_all, All-more}
use Rattle.cf_books.specs.Calls.{ReadsBack, call_line}
use Rattle.cf_books.proofs.Steps.{drop-item}
use Rattle.cf_books.proofs.CallsAgain.{after_calls-legal}
use Rattle.cf_books.proofs.calls.put_calls.Goals as goal

pub returns-in_err-put_call-clause-again : goal.returns-in_err-put_call-clause-again
returns-in_err-put_call-clause-again c = λ plan legal. after_calls-legal plan c.args.entries.now legal

pub returns-clause-again : goal.returns-clause-again
returns-clause-again c = λ plan legal. after_calls-legal plan c.args.entries.now legal

pub loop-entry-preserved : goal.loop-entry-preserved
loop-entry-preserved c =
    let entry = c.entry-item.result in
    let entries = c.args.entries.now in
    let i = c.loop-entry.entry-index in
    let below : i < length entries = omega arith in
    let rest : entry ∷ drop (i + 1) entries ≡ drop i entries = drop-item entries i entry below c.entry-item.is in
    record {
      text =
          rw c.in_ok-put_call.ensures.text
          (append_assoc c.loop-entry.out.items (call_line entry) (flat_map call_line (drop (i + 1) entries)) ∙ ap (λ l. c.loop-entry.out.items ++ flat_map call_line l) rest ∙ c.loop-entry.invariant.text);
      back = All-more ReadsBack entries i entry below c.loop-entry.invariant.back (subst ReadsBack c.entry-item.is c.in_ok-put_call.ensures.back);
    }

pub returns-clause-back : goal.returns-clause-back
returns-clause-back c = subst (All ReadsBack) (take_all c.loop-entry.entry-index c.args.entries.now (omega arith)) c.loop-entry.invariant.back
