-- What contracts see of a disk in memory.
use Rattle.std.specs.Prelude.{◌≡◌, ℕ, List, [], ◌∷◌, ◌++◌, reverse}
use Rattle.std.proofs.Common.{sym, subst}
use Rattle.cf_disk.specs.Memory.{IsImageOf}
use Rattle.cf_disk.specs.MemoryLaws.{content_is_image}
use Rattle.cf_disk.specs.declared.memory.DiskCall.{DiskCall}
use Rattle.cf_disk.specs.declared.memory.MemDisk.{MemDisk}

-- what a read gives
abbrev pub bytes_of : MemDisk → List ℕ
bytes_of d = d.bytes.items

-- the calls so far, the oldest first
abbrev pub calls_of : MemDisk → List DiskCall
calls_of d = d.calls.items

-- nothing else has changed
pub record SameButFaults (old new : MemDisk) : Type 0 where
  pub first : new.first.items ≡ old.first.items
  pub bytes : new.bytes.items ≡ old.bytes.items
  pub calls : new.calls.items ≡ old.calls.items

-- the record has a call more
pub record AddsCall (old new : MemDisk) (call : DiskCall) : Type 0 where
  pub first : new.first.items ≡ old.first.items
  pub bytes : new.bytes.items ≡ old.bytes.items
  pub calls : new.calls.items ≡ old.calls.items ++ call ∷ []

pub image_held : (d : MemDisk) → IsImageOf d.first.items d.calls.items d.bytes.items
image_held d = subst (λ (image : List ℕ). IsImageOf d.first.items d.calls.items image)
    (sym d.recorded) (content_is_image d.first.items (reverse d.calls.items))
