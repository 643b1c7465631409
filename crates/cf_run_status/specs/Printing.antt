-- What the output got of a command's text, by how the run ended.
use Rattle.std.specs.Prelude.{◌≡◌, ℕ, List, Option}
use Rattle.std.specs.Io.KnownBytes.{Appends}
use Rattle.cf_base_lines.specs.Sinks.{Wrote}
use Rattle.cf_run_status.specs.declared.status.Status.{Status}
use Rattle.cf_run_status.specs.declared.status.Status.TheVariants as status

-- all of it; a front of it; or nothing, where there was no memory to make it
abbrev pub Prints : List ℕ → Option (List ℕ) → Option (List ℕ) → Status → Type 0
Prints text held held' status.Ok = Appends held held' text
Prints text held held' status.WriteFault = (rest : List ℕ) × Wrote held held' text rest
Prints text held held' status.NoMemory = held' ≡ held
Prints text held held' _ = ⊥
