pub mod Reading
pub mod Cutting
pub mod Meant
pub mod Faults
pub mod Outcomes
pub mod Blame
pub mod Theorems
