use Rattle.std.proofs.Common.{◌≡◌, ◌+◌, List, [], ◌∷◌, ◌++◌, All, map, length, ℕ, sym, ap, subst, ◌∙◌, arith}
use mathlib.Core.List.{IsPrefix}
use Rattle.cf_turns.specs.Lists.{TaggedCall, TaggedEntry, calls_of, places_of}
use Rattle.cf_turns.specs.States.{PassState, RecorderState}
use Rattle.cf_hall_names.specs.Closing.{accepted_of, failed_calls, receipts_of}
use Rattle.cf_hall_names.specs.Shares.{SharesState}
use Rattle.cf_hall.proofs.Ending.{closed, nothing_more, one_apart}
use Rattle.cf_hall.proofs.Failed.{all_failed}
use Rattle.cf_hall.proofs.closing.close_in.Goals as goal

pub end_all-requires-clause-apart : goal.end_all-requires-clause-apart
end_all-requires-clause-apart g c =
    one_apart c.end_pass-kept.new.self.ended c.kept.inside.pass.number (ap (λ (r : RecorderState). r.ended) c.end_pass-kept.ensures.recorder ∙ ap (λ (ns : List ℕ). ns ++ c.kept.inside.pass.number ∷ []) c.requires.none_ended)

pub returns-clause-closes : goal.returns-clause-closes
returns-clause-closes g c =
    let list = c.args.recorder.list in
    let kept : PassState = c.kept.inside.pass in
    let same : c.end_pass-kept.new.self.list ≡ list = ap (λ (r : RecorderState). r.list) c.end_pass-kept.ensures.recorder in
    let first : c.end_pass-kept.new.self.ended ≡ kept.number ∷ [] = ap (λ (r : RecorderState). r.ended) c.end_pass-kept.ensures.recorder ∙ ap (λ (ns : List ℕ). ns ++ kept.number ∷ []) c.requires.none_ended in
    let ended : c.end_all.new.recorder.ended ≡ (kept.number ∷ []) ++ map (λ (p : PassState). p.number) c.args.passes.items = c.end_all.ensures.ended ∙ ap (λ (ns : List ℕ). ns ++ map (λ (p : PassState). p.number) c.args.passes.items) first in
    let all : All (λ (p : PassState). p.places ≡ places_of p.number list) c.args.passes.items =
    subst (λ (l : List TaggedEntry). All (λ (p : PassState). p.places ≡ places_of p.number l) c.args.passes.items) same c.end_all.ensures.places in
    let merged = c.merge.ensures in
    let parts : c.end_all.new.shares.parts ≡ 65536 = omega (arith, c.end_all.ensures.parts, ap (λ (s : SharesState). s.parts) merged, c.kept.invariant.part, c.requires.parts) in
    let whole = c.audit.ensures.accepted parts in
    let many : length kept.places + accepted_of (map receipts_of c.args.passes.items) ≡ length list =
    omega (arith, whole, c.end_all.ensures.accepted, ap (λ (s : SharesState). s.accepted) merged, c.kept.invariant.accepted, c.requires.none.0, c.requires.total) in
    let here : kept.places ≡ places_of kept.number list = c.end_pass-kept.ensures.places in
    rw (← c.kept.view_is)
    (closed list kept c.args.passes.items c.end_all.new.recorder.ended here all ended c.end_all.ensures.apart many)

pub returns-clause-seen : goal.returns-clause-seen
returns-clause-seen g c =
    let same : c.end_pass-kept.new.self.list ≡ c.args.recorder.list = ap (λ (r : RecorderState). r.list) c.end_pass-kept.ensures.recorder in
    subst (λ (l : List TaggedEntry). All (λ (p : PassState). IsPrefix p.seen l) c.args.passes.items) same c.end_all.ensures.seen

pub returns-clause-failed : goal.returns-clause-failed
returns-clause-failed g c =
    let list = c.args.recorder.failed in
    let kept : PassState = c.kept.inside.pass in
    let same : c.end_pass-kept.new.self.failed ≡ list = ap (λ (r : RecorderState). r.failed) c.end_pass-kept.ensures.recorder in
    let first : c.end_pass-kept.new.self.ended ≡ kept.number ∷ [] = ap (λ (r : RecorderState). r.ended) c.end_pass-kept.ensures.recorder ∙ ap (λ (ns : List ℕ). ns ++ kept.number ∷ []) c.requires.none_ended in
    let ended : c.end_all.new.recorder.ended ≡ (kept.number ∷ []) ++ map (λ (p : PassState). p.number) c.args.passes.items = c.end_all.ensures.ended ∙ ap (λ (ns : List ℕ). ns ++ map (λ (p : PassState). p.number) c.args.passes.items) first in
    let all : All (λ (p : PassState). p.failed ≡ calls_of p.number list) c.args.passes.items =
    subst (λ (l : List TaggedCall). All (λ (p : PassState). p.failed ≡ calls_of p.number l) c.args.passes.items) same c.end_all.ensures.failed in
    let merged = c.merge.ensures in
    let parts : c.end_all.new.shares.parts ≡ 65536 = omega (arith, c.end_all.ensures.parts, ap (λ (s : SharesState). s.parts) merged, c.kept.invariant.part, c.requires.parts) in
    let whole = c.audit.ensures.faulted parts in
    let quiet : kept.faults ≡ 0 = rw (← c.kept.view_is) at c.requires.quiet in
    let theirs : c.kept.inside.shares.faulted ≡ 0 = omega (arith, c.kept.invariant.faulted, quiet) in
    let none : kept.failed ≡ [] = nothing_more kept.failed (sym c.kept.invariant.failed ∙ theirs) in
    let many : length (failed_calls c.args.passes.items) ≡ length list =
    omega (arith, whole, c.end_all.ensures.counted, ap (λ (s : SharesState). s.faulted) merged, theirs, c.requires.none.1, c.requires.noted) in
    let here : kept.failed ≡ calls_of kept.number list = c.end_pass-kept.ensures.failed in
    all_failed list kept c.args.passes.items c.end_all.new.recorder.ended here all ended c.end_all.ensures.apart many none

pub returns-clause-faulted : goal.returns-clause-faulted
returns-clause-faulted g c =
    let merged = c.merge.ensures in
    let parts : c.end_all.new.shares.parts ≡ 65536 = omega (arith, c.end_all.ensures.parts, ap (λ (s : SharesState). s.parts) merged, c.kept.invariant.part, c.requires.parts) in
    omega (arith, c.audit.ensures.faulted parts, c.end_all.ensures.faulted)

pub returns-clause-quiet : goal.returns-clause-quiet
returns-clause-quiet g c = λ none.
    let merged = c.merge.ensures in
    let parts : c.end_all.new.shares.parts ≡ 65536 = omega (arith, c.end_all.ensures.parts, ap (λ (s : SharesState). s.parts) merged, c.kept.invariant.part, c.requires.parts) in
    let quiet : c.kept.inside.pass.faults ≡ 0 = rw (← c.kept.view_is) at c.requires.quiet in
    let theirs : c.kept.inside.shares.faulted ≡ 0 = omega (arith, c.kept.invariant.faulted, quiet) in
    omega (arith, c.audit.ensures.faulted parts, c.end_all.ensures.quiet none, ap (λ (s : SharesState). s.faulted) merged, theirs, c.requires.none.1)
