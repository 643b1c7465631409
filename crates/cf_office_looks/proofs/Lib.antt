pub mod SmallBalance
