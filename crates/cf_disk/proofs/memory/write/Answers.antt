use Rattle.std.proofs.Common.{◌≡◌, ◌+◌, List, [], ◌∷◌, ◌++◌, max, ℕ, length, take, drop, ◌∙◌, ap, arith}
use Rattle.cf_disk.specs.declared.memory.DiskCall.{DiskCall}
use Rattle.cf_disk.specs.declared.memory.DiskCall.TheVariants.{Write}
use Rattle.cf_disk.proofs.Writes.{made}
use Rattle.cf_disk.proofs.memory.write.Goals as goal

pub returns-clause-ok : goal.returns-clause-ok
returns-clause-ok c =
    let top = max (length c.args.bytes.now.items) (c.args.at + length c.args.piece.now) in
    let end_is : c.in-Some.end ≡ c.args.at + length c.args.piece.now = omega (arith, c.in-Some.ensures) in
    let len_is : c.max-len.result ≡ top = omega (arith, end_is) in
    made c.args.at c.max-len.result _ _ c.args.piece.now c.args.bytes.now.items c.resize.new.self.items c.put.new.bytes c.args.bytes.now.ok.0
    c.in_ok-resize.ensures.items len_is (c.put.ensures ∙ ap (λ (l : List ℕ). take c.args.at l ++ c.args.piece.now ++ drop (c.args.at + length c.args.piece.now) l) c.as_mut_slice.ensures.value) c.resize.new.self.ok.0

pub returns-clause-record : goal.returns-clause-record
returns-clause-record c = record {
  copy = c.in_ok-copy.copy;
  same = c.in_ok-copy.ensures.items;
  added = c.note_within.ensures ∙ ap (λ (l : List DiskCall). l ++ Write c.args.at c.in_ok-copy.copy ∷ []) c.reserve.ensures.items;
}
