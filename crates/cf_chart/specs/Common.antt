-- The names that most files cite, passed on from one place. Declares nothing.
pub use Rattle.cf_chart.specs.Faults.{word_of, Checked, table_word, ◌>>=◌, must, or_fault, Gives}
pub use Rattle.cf_chart.specs.Index.{part_number, number_at, key_at, has_key, key_cmp, Indexes}
pub use Rattle.cf_chart.specs.Levels.{has_function, level_for, same_keys, is_at_level, suits, is_leveled, same_part, longest_of, has_short_window}
pub use Rattle.cf_chart.specs.Plan.{Plan, fund_at, line_at, source_at, object_at, desk_at, is_capital_kind, is_spending_kind, department_at, function_at, is_of_year, line_of, is_carry, longest_window, line_in, in_part, covers, covers_some, line_for, is_later}
pub use Rattle.cf_chart.specs.Reading.{chart_of, value_of, is_general, are_tables, rows_in, count, checked_plan, department_row, departments_of, desks_of, functions_of, funds_of, line_part, line_row, lines_after, lines_of, new_line, objects_of, one_general, plan_of, rows_of, sizes, sources_of, top, new_row, rows_after, placed, source_row, with_function, fits, table_of, function_row, fund_row, object_row, desk_row, function_key}
pub use Rattle.cf_chart.specs.Rising.{is_rising}
pub use Rattle.cf_chart.specs.Values.{natural, within, kept, as_later, as_name, fund_levels, is_truth, may, named, need, present, if_present, or_not, class_in, as_word, source_words, word_among}
pub use Rattle.cf_chart.specs.Words.{plain_words}
