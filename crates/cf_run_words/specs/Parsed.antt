-- The command that a parse found, by the name of its subcommand and the rows of its arguments.
use Rattle.std.specs.Prelude.{if◌then◌else◌, List, Option, Some, None, codes}
use Rattle.std.specs.Str.{bytes_eq}
use Rattle.cf_base.specs.Common.{last_year, most_entries, most_cents}
use Rattle.clap.specs.Words.{Row, first_of}
use Rattle.cf_run_words.specs.Forms.{Text}
use Rattle.cf_run_words.specs.Words.{◌>>=◌, day_in, month_in, number_in, report_kind_of, is_set}
use Rattle.cf_run_words.specs.declared.words.Command.{Command}
use Rattle.cf_run_words.specs.declared.words.Command.TheVariants as command

abbrev pub serve_in : List Row → Option Command
serve_in rows = do
  port ← number_in 1024 65000 (first_of (codes "port") rows)
  doors ← number_in 1 16 (first_of (codes "doors") rows)
  links ← number_in 1 1000000 (first_of (codes "links") rows)
  Some (command.Serve port doors links)

abbrev pub report_in : List Row → Option Command
report_in rows = do
  year ← number_in 1971 last_year (first_of (codes "year") rows)
  text ← first_of (codes "kind") rows
  kind ← report_kind_of text
  Some (command.Report year kind (is_set (first_of (codes "csv") rows)))

abbrev pub generate_in : List Row → Option Command
generate_in rows = do
  n ← number_in 1 100000 (first_of (codes "n") rows)
  Some (command.Generate n)

abbrev pub pool_in : List Row → Option Command
pool_in rows = do
  month ← month_in (first_of (codes "month") rows)
  amount ← number_in 1 most_cents (first_of (codes "amount") rows)
  desk ← number_in 1 9999 (first_of (codes "desk") rows)
  Some (command.Pool month amount desk)

abbrev pub claim_in : List Row → Option Command
claim_in rows = do
  grant ← number_in 1 9999 (first_of (codes "grant") rows)
  on ← day_in (first_of (codes "date") rows)
  desk ← number_in 1 9999 (first_of (codes "desk") rows)
  Some (command.Claim grant on desk)

abbrev pub ship_in : List Row → Option Command
ship_in rows = do
  from ← number_in 0 most_entries (first_of (codes "from") rows)
  Some (command.Ship from)

abbrev pub command_in : Text × List Row → Option Command
command_in found =
    if bytes_eq found.0 (codes "found") then Some command.Found
    else (if bytes_eq found.0 (codes "desk") then Some command.Desk
    else (if bytes_eq found.0 (codes "serve") then serve_in found.1
    else (if bytes_eq found.0 (codes "report") then report_in found.1
    else (if bytes_eq found.0 (codes "generate") then generate_in found.1
    else (if bytes_eq found.0 (codes "pool") then pool_in found.1
    else (if bytes_eq found.0 (codes "claim") then claim_in found.1
    else (if bytes_eq found.0 (codes "ship") then ship_in found.1
    else (if bytes_eq found.0 (codes "follow") then Some command.Follow else None))))))))
