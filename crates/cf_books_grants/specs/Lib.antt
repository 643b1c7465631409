pub mod Vouchers
pub mod Documents
pub mod Faults
pub mod FaultIds
