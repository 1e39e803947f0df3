pub mod Stacking
pub mod Recording
pub mod Calling
pub mod Permitting
pub mod Concluding
pub mod Informing
