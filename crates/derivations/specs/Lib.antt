pub mod Sheets
pub mod Gathered
pub mod Derived
pub mod Finished
pub mod Moved
pub mod Whole
