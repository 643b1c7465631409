-- The ranges of a command's numbers.
use Rattle.std.specs.Prelude.{ℕ, ◌≡◌, ◌≤◌, true, ⊤}
use Rattle.cf_base.specs.Common.{is_call_month, is_day, last_year, most_entries, most_cents}
use Rattle.cf_run_words.specs.declared.words.Command.{Command}
use Rattle.cf_run_words.specs.declared.words.Command.TheVariants as command

pub record IsFrom (low high n : ℕ) : Type 0 where
  pub from : low ≤ n
  pub to : n ≤ high

-- ports, doors and links; fiscal years; calls to be drawn; months and days that a call may state,
-- cents, grants and desks; places of a history
abbrev pub IsInRange : Command → Type 0
IsInRange (command.Serve port doors links) = IsFrom 1024 65000 port × IsFrom 1 16 doors
    × IsFrom 1 1000000 links
IsInRange (command.Report year kind csv) = IsFrom 1971 last_year year
IsInRange (command.Generate n) = IsFrom 1 100000 n
IsInRange (command.Pool month amount desk) = (is_call_month month ≡ true)
    × IsFrom 1 most_cents amount × IsFrom 1 9999 desk
IsInRange (command.Claim grant on desk) = IsFrom 1 9999 grant × (is_day on ≡ true)
    × IsFrom 1 9999 desk
IsInRange (command.Ship from) = IsFrom 0 most_entries from
IsInRange _ = ⊤
