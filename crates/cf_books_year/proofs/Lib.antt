pub mod Opening
pub mod Forms
pub mod Few
