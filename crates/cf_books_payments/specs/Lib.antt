pub mod Amounts
pub mod Payments
pub mod Tables
pub mod Paid
pub mod Entering
