pub mod Tails
pub mod Alike
pub mod Settling
pub mod Telling
pub mod Putting
