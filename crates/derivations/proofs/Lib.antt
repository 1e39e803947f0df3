pub mod Sounding
pub mod Writing
