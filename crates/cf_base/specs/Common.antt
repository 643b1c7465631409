-- The names that most files cite, passed on from one place. Declares nothing.
pub use Rattle.cf_base.specs.Amounts.{money_of, sign_text, size_text}
pub use Rattle.cf_base.specs.Calendar.{is_day, is_call_month, day_text, day_of_text, month_of_text, is_digit, month_of_day, month_text, year_of_month, day_number, next_day, last_digit, is_day_form, day_if, day_written}
unfoldable pub use Rattle.cf_base.specs.Calendar.{day_of_number}
pub use Rattle.cf_base.specs.Causes.{HasCause, Rose}
pub use Rattle.cf_base.specs.Limits.{most_entries, last_fiscal_year, most_cents, last_year}
pub use Rattle.cf_base.specs.Money.{is_amount}
pub use Rattle.cf_base.specs.Shares.{AreShares, AreFair, HasFloor, HasMore, IsAhead, floor_of, rest_of, rest_at}
pub use Rattle.cf_base.specs.Sinks.{WritesSome}
pub use Rattle.cf_base.specs.Statements.{statement_of}
pub use Rattle.cf_base.specs.Windows.{year_end, is_in_window, window_end, last_month}
