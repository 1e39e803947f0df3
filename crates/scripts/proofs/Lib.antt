pub mod Running
pub mod Fronts
pub mod Deriving
pub mod Settling
pub mod Showing
