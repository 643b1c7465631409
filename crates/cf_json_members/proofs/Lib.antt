pub mod Days
pub mod Items
pub mod LeastNames
pub mod Names
pub mod Numbers
pub mod ObjectTexts
pub mod Plain
