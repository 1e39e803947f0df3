pub mod Going
pub mod Settling
pub mod Inputs
pub mod Turning
