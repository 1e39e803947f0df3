pub mod Settling
pub mod Putting
