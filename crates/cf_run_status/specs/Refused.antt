-- How a run ends whose journal isn't opened.
use Rattle.cf_journal_book.specs.declared.refused.BookRefused.{BookRefused}
use Rattle.cf_journal_book.specs.declared.refused.BookRefused.TheVariants as refused
use Rattle.cf_run_status.specs.declared.status.Status.{Status}
use Rattle.cf_run_status.specs.declared.status.Status.TheVariants as status

abbrev pub status_of_refused : BookRefused → Status
status_of_refused refused.Disk = status.DiskFault
status_of_refused (refused.NotFounded len byte) = status.NotFounded len byte
status_of_refused (refused.Damaged offset refusal) = status.Damaged offset refusal
status_of_refused refused.NoMemory = status.NoMemory
