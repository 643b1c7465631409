pub mod Months
pub mod Totals
pub mod ReadLines
pub mod Departments
