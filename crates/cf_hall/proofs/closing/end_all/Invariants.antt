use Rattle.std.proofs.Common.{◌≡◌, ◌≤◌, ◌+◌, ◌++◌, length, map, All, vec_capacity}
use mathlib.Core.List.{IsPrefix}
use Rattle.cf_base.proofs.Common.{into_iter_items}
use Rattle.cf_turns.specs.Lists.{calls_of, places_of}
use Rattle.cf_hall_names.specs.Closing.{AreApart, accepted_of, failed_calls, faults_in, receipts_of}
use Rattle.cf_hall.proofs.closing.end_all.Given as goal

abbrev pub invariant-loop-pass : goal.invariant-loop-pass
invariant-loop-pass g l = record {
  next : (goal.iterator-loop-pass g).can_next l.pass-iterator;
  finite : (goal.iterator-loop-pass g).is_finite l.pass-iterator;
  all : l.fn.passes.items ≡ l.yielded ++ into_iter_items l.pass-iterator;
  table : l.recorder.table ≡ l.initial.recorder.table;
  list : l.recorder.list ≡ l.initial.recorder.list;
  ended : l.recorder.ended ≡ l.initial.recorder.ended ++ map (λ p. p.number) l.yielded;
  apart : AreApart l.recorder.ended;
  receipts : l.receipts.items ≡ l.initial.receipts.items ++ map receipts_of l.yielded;
  capacity : vec_capacity l.receipts ≡ vec_capacity l.initial.receipts;
  places : All (λ p. p.places ≡ places_of p.number l.initial.recorder.list) l.yielded;
  seen : All (λ p. IsPrefix p.seen l.initial.recorder.list) l.yielded;
  failed : All (λ p. p.failed ≡ calls_of p.number l.initial.recorder.failed) l.yielded;
  noted : l.recorder.failed ≡ l.initial.recorder.failed;
  counted : l.shares.faulted ≡ l.initial.shares.faulted + length (failed_calls l.yielded);
  parts : l.shares.parts ≡ l.initial.shares.parts + length l.yielded;
  accepted : l.shares.accepted ≡ l.initial.shares.accepted + accepted_of (map receipts_of l.yielded);
  faulted : l.initial.shares.faulted + faults_in (map receipts_of l.yielded) ≤ l.shares.faulted;
  quiet : faults_in (map receipts_of l.yielded) ≡ 0 → l.shares.faulted ≡ l.initial.shares.faulted;
}
