pub mod Joined
pub mod Giving
pub mod Sides
