pub mod Stack
pub mod Recorded
pub mod Citing
pub mod Telling
pub mod Sequents
