pub mod Seen
pub mod Adding
pub mod Next
pub mod Amounts
pub mod RowLines
pub mod Formulas
mod OpenDrawn
mod OpenSums
mod OpenDues
