pub mod Stores
pub mod Making
pub mod Reads
pub mod Spelled
