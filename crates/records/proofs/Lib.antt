pub mod Cutting
pub mod Decimals
pub mod Joining
