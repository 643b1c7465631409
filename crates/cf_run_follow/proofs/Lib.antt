pub mod Shipping
pub mod Admitted
pub mod Following
