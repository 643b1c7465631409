pub mod Parties
pub mod PartiesView
pub mod Ledger
pub mod Seen
